-- Laws of whole scripts.
use Rattle.std.specs.Prelude.{◌≡◌, ◌<◌, ℕ, List, length}
use Rattle.std.specs.List.{AllByRecursion}
use Rattle.world_model.specs.Sizes.{Sizes, IsLawful}
use Rattle.world_model.specs.State.{beginning}
use Rattle.world_model.specs.Histories.{Legal}
use Rattle.class_schema.specs.Lawful.{IsSchema}
use Rattle.level_script.specs.Frames.{IsAtOnce}
use Rattle.world_play.specs.Header.{Header}
use Rattle.world_play.specs.Types.{Entry, Reply, Line, Cmd, LaneCmd}
use Rattle.world_play.specs.Types.cmd
use Rattle.world_play.specs.Types.lane_cmd
use Rattle.world_play.specs.Bindings.{Bindings, no_bindings}
use Rattle.world_play.specs.Plays.{Plays, text, entries_of}
use Rattle.world_play.specs.Outcome.{outcome}

-- the class of each object that the command makes is one of the table
abbrev pub LaneClass : Header → LaneCmd → Type 0
LaneClass header (lane_cmd.New var class) = class.0 < length header.classes.classes
LaneClass header (lane_cmd.Cluster members) = AllByRecursion (λ m. m.class.0 < length header.classes.classes) members
LaneClass header _ = Unit {0}

abbrev pub HasClass : Header → Cmd → Type 0
HasClass header (cmd.Lane lane what) = LaneClass header what
HasClass header (cmd.Gc what) = Unit {0}

-- However a legal history of a shape plays a whole script, whose classes are those of a table and are ready as soon as they are asked, the text of its replies is the outcome of the script.
abbrev pub OneText : Type 0
OneText = (z : Sizes) (budget : ℕ) (header : Header) (lines : List Line) (pieces : List (List Entry)) (replies : List Reply) (last : Bindings)
    → IsLawful z
    → IsSchema header.classes
    → AllByRecursion IsAtOnce header.classes.classes
    → AllByRecursion (λ l. HasClass header l.cmd) lines
    → Legal z (entries_of pieces)
    → Plays budget header beginning no_bindings lines pieces replies last
    → text header.classes.classes replies ≡ outcome z header lines
