-- What it is to play a script: its history is cut into one piece for each line, and each line has a reply.
use Rattle.std.specs.Prelude.{◌≡◌, ℕ, nat_lt, Bool, true, false, ◌&&◌, List, [], ◌∷◌, length, flat_map, slice_index}
use Rattle.class_schema.specs.Class.{Class}
use Rattle.world_model.specs.NameLists.{set_at}
use Rattle.world_model.specs.State.{State}
use Rattle.world_model.specs.Next.{run}
use Rattle.level_script.specs.Frames.{fits_lane}
use Rattle.world_play.specs.Header.{Header}
use Rattle.world_play.specs.Bindings.{Bindings}
use Rattle.world_play.specs.Lanes.{LaneTurn}
use Rattle.world_play.specs.Collections.{GcTurn, GcPart}
use Rattle.world_play.specs.Text.{text_of}
use Rattle.world_play.specs.Types.{Entry, Reply, Line, Cmd}
use Rattle.world_play.specs.Types.cmd
use Rattle.world_play.specs.Types.lane_cmd

-- from a state and these variables the command of a line has these entries and this reply, and leaves those variables
abbrev pub TurnBy : ℕ → Header → State → Bindings → Cmd → List Entry → Reply → Bindings → Type 0
TurnBy budget header s names (cmd.Lane lane what) piece r new = LaneTurn header s names lane what piece r new
TurnBy budget header s names (cmd.Gc what) piece r new = GcTurn budget header s what piece r × (new ≡ names)

-- the lines have these pieces and these replies in order, from a state and these variables to those
unfoldable pub Plays : ℕ → Header → State → Bindings → List Line → List (List Entry) → List Reply → Bindings → Type 0
Plays budget header s names [] [] [] new = new ≡ names
Plays budget header s names (l ∷ ls) (p ∷ ps) (r ∷ rs) new = (mid : Bindings) × TurnBy budget header s names l.cmd p r mid × Plays budget header (run s p) mid ls ps rs new
Plays budget header s names _ _ _ new = ⊥

-- the text of replies, in a script with these classes
abbrev pub text : List Class → List Reply → List ℕ
text classes replies = flat_map (λ r. text_of classes r) replies

-- the entries of pieces in order
abbrev pub entries_of : List (List Entry) → List Entry
entries_of pieces = flat_map (λ p. p) pieces

-- ---- a line that is not played to its end

-- from a state the entries are those of some of the command's calls, from the first on, or of none
abbrev pub IsPart : ℕ → State → Cmd → List Entry → Type 0
IsPart budget s (cmd.Lane lane what) part = part ≡ []
IsPart budget s (cmd.Gc what) part = GcPart budget s what part

-- ---- lines that can be played

-- the frames that are open after a command, by lane
abbrev pub frames_by : (ℕ → Bool) → Cmd → ℕ → Bool
frames_by opened (cmd.Lane lane lane_cmd.Open) = set_at opened lane true
frames_by opened (cmd.Lane lane lane_cmd.Close) = set_at opened lane false
frames_by opened _ = opened

-- a command has its lane's frame as it needs it, and numbers of lanes, variables, classes and fields that are there
abbrev pub fits : ℕ → List ℕ → Header → (ℕ → Bool) → Cmd → Bool
fits lanes vars header opened (cmd.Lane lane what) = nat_lt lane lanes && fits_lane (slice_index vars lane) (length header.classes.classes) (length header.fields) (opened lane) what
fits lanes vars header opened (cmd.Gc what) = true

-- so does that of each line in turn
unfoldable pub are_fit : ℕ → List ℕ → Header → (ℕ → Bool) → List Line → Bool
are_fit lanes vars header opened [] = true
are_fit lanes vars header opened (l ∷ ls) = fits lanes vars header opened l.cmd && are_fit lanes vars header (frames_by opened l.cmd) ls
