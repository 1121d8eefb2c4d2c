-- What the player is asked for, and what it leaves.
use Rattle.std.specs.Prelude.{◌≡◌, ℕ, ◌<◌, ◌⊎◌, Bool, true, List, [], ◌∷◌, ◌++◌, length, Option, Some}
use Rattle.world_model.specs.Sizes.{Sizes}
use Rattle.world_model.specs.World.{World, is_open, kind_of}
use Rattle.class_schema.specs.Table as table
use Rattle.class_schema.specs.Lawful.{IsSchema}
use Rattle.world_model.specs.State.{State, beginning}
use Rattle.world_model.specs.Histories.{state_of, after, Legal}
use Rattle.world_model.specs.Engines.{Holdings}
use Rattle.level_script.specs.Frames.{fits_script}
use Rattle.world_play.specs.Header.{Header}
use Rattle.world_play.specs.Types.{Name, Kind, Entry, Line, Cmd, LaneCmd, Reply, Lane}
use Rattle.world_play.specs.Bindings.{Bindings, no_bindings}
use Rattle.world_play.specs.Lanes.{LaneTurn}
use Rattle.world_play.specs.Plays.{TurnBy, IsPart, Plays, text, entries_of, frames_by, fits}
use Rattle.world_play.specs.Text.{text_of, HasText}
use Rattle.world_play.specs.Streams.{Gained, IsStart}
use Rattle.world_play.specs.Variables.{Standing, shown, AreHeld}

-- the lanes whose frames are open
abbrev pub frames_of : World → ℕ → Bool
frames_of w lane = is_open w (Lane lane)

-- each object that was made is of a kind of the table
pub record AreMade (header : Header) (w : World) : Type 0 where
  pub class : (n : Name) (k : Kind) → kind_of w n ≡ Some k → k.class.0 < length header.classes.classes
  pub kind : (n : Name) (k : Kind) → kind_of w n ≡ Some k → k ≡ table.kind_of header.classes k.class

-- A command can be played: its lane, its variables, its class and its strong pointer are there, and its lane's frame is as it needs it.
pub record IsReady (z : Sizes) (history : List Entry) (holds : Holdings) (variables : Standing) (header : Header) (what : Cmd) : Type 0 where
  pub fit : fits z.lanes variables.counts.lanes header (frames_of (after history)) what ≡ true
  pub beside : fits_script variables.counts.weaks z.strong what ≡ true
  pub count : length variables.counts.lanes ≡ z.lanes
  pub held : AreHeld holds variables
  pub slots : header.classes.slots ≡ z.slots
  pub schema : IsSchema header.classes
  pub made : AreMade header (after history)

-- A command of a lane was played, from these variables to those.
pub record LaneDid (header : Header) (old new : List Entry) (before now : Bindings) (lane : ℕ) (what : LaneCmd) (r : Reply) : Type 0 where
  pub piece : List Entry
  pub grown : new ≡ old ++ piece
  pub turn : LaneTurn header (state_of old) before lane what piece r now

-- A command was played.
pub record Turned (z : Sizes) (budget : ℕ) (header : Header) (old new : List Entry) (holds : Holdings) (before now : Standing) (what : Cmd) (r : Reply) : Type 0 where
  pub piece : List Entry
  pub grown : new ≡ old ++ piece
  pub turn : TurnBy budget header (state_of old) (shown before) what piece r (shown now)
  pub frames : frames_of (after new) ≡ frames_by (frames_of (after old)) what
  pub counts : now.counts ≡ before.counts
  pub held : AreHeld holds now
  pub made : AreMade header (after new)
  pub told : HasText header.classes.classes r

-- all calls of a command were made, and no reply was put yet
abbrev pub IsPiece : ℕ → Header → State → Bindings → Cmd → List Entry → Type 0
IsPiece budget header s names what piece = (r : Reply) × (new : Bindings) × TurnBy budget header s names what piece r new

-- A command was not answered: some of its calls were made, or all of them.
pub record Broken (z : Sizes) (budget : ℕ) (header : Header) (old new : List Entry) (names : Bindings) (what : Cmd) : Type 0 where
  pub part : List Entry
  pub grown : new ≡ old ++ part
  pub made : IsPart budget (state_of old) what part ⊎ IsPiece budget header (state_of old) names what part
  pub legal : Legal z new

-- A line was played, and its reply put.
pub record Answered (z : Sizes) (budget : ℕ) (header : Header) (old new : List Entry) (holds : Holdings) (before now : Standing) (l : Line) (had has : Option (List ℕ)) : Type 0 where
  pub reply : Reply
  pub turned : Turned z budget header old new holds before now l.cmd reply
  pub put : Gained had has (text_of header.classes.classes reply)

-- all calls of a command were made, and a beginning of the text of its reply was put
abbrev pub PutsStart : ℕ → Header → State → Bindings → Cmd → List Entry → List ℕ → Type 0
PutsStart budget header s names what piece some = (r : Reply) × (new : Bindings) × TurnBy budget header s names what piece r new × IsStart some (text_of header.classes.classes r)

-- the lines end here; or of the next line some calls were made and nothing was put, or all calls were made and a beginning of its text was put
abbrev pub Stops : ℕ → Header → State → Bindings → List Line → List Entry → List ℕ → Type 0
Stops budget header s names [] part some = (part ≡ []) × (some ≡ [])
Stops budget header s names (l ∷ ls) part some = (IsPart budget s l.cmd part × (some ≡ [])) ⊎ PutsStart budget header s names l.cmd part some

-- A line was not played, or its reply was not put as a whole.
pub record Unanswered (z : Sizes) (budget : ℕ) (header : Header) (old new : List Entry) (names : Bindings) (l : Line) (had has : Option (List ℕ)) : Type 0 where
  pub part : List Entry
  pub some : List ℕ
  pub grown : new ≡ old ++ part
  pub stops : Stops budget header (state_of old) names (l ∷ []) part some
  pub legal : Legal z new
  pub put : Gained had has some

-- The lines were played from the beginning, and their replies put: the history is legal, it is cut into the pieces of the lines, and what was put is the text of the replies.
pub record Played (z : Sizes) (budget : ℕ) (header : Header) (lines : List Line) (history : List Entry) (had has : Option (List ℕ)) : Type 0 where
  pub pieces : List (List Entry)
  pub replies : List Reply
  pub last : Bindings
  pub legal : Legal z history
  pub cut : history ≡ entries_of pieces
  pub plays : Plays budget header beginning no_bindings lines pieces replies last
  pub put : Gained had has (text header.classes.classes replies)

-- The first lines were played, and so many replies put as a whole; of the next line perhaps some calls were made, or all of them and a beginning of its text was put.
pub record Stopped (z : Sizes) (budget : ℕ) (header : Header) (lines : List Line) (history : List Entry) (had has : Option (List ℕ)) (count : ℕ) : Type 0 where
  pub whole : List Line
  pub rest : List Line
  pub pieces : List (List Entry)
  pub replies : List Reply
  pub part : List Entry
  pub names : Bindings
  pub some : List ℕ
  pub legal : Legal z history
  pub are : lines ≡ whole ++ rest
  pub cut : history ≡ entries_of pieces ++ part
  pub plays : Plays budget header beginning no_bindings whole pieces replies names
  pub stops : Stops budget header (state_of (entries_of pieces)) names rest part some
  pub put : Gained had has (text header.classes.classes replies ++ some)
  pub number : count ≡ length whole
