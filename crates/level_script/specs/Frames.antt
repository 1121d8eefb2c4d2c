-- What the player of a script may rely on.
use Rattle.std.specs.Prelude.{◌≡◌, ◌<◌, ℕ, nat_lt, Bool, true, false, ◌&&◌, List, [], ◌∷◌, length, replicate, slice_index, slice_index_or, slice_set}
use Rattle.std.specs.List.{AllByRecursion, list_all}
use Rattle.world_model.specs.declared.kind.Ready.TheVariants as ready
use Rattle.class_schema.specs.Class.{Class}
use Rattle.level_script.specs.Forms.{is_identifier, continues_identifier}
use Rattle.level_script.specs.LaneCommands.{frame_by, named_by, beside_by}
use Rattle.level_script.specs.Operands.{allows, opened_by, fits_known, fits_beside}
use Rattle.level_script.specs.declared.limits.Limits.{Limits}
use Rattle.level_script.specs.declared.script.Cmd.{Cmd}
use Rattle.level_script.specs.declared.script.Cmd.TheVariants as cmd
use Rattle.level_script.specs.declared.lane_cmd.LaneCmd.{LaneCmd}
use Rattle.level_script.specs.declared.operand.Known.{Known}
use Rattle.level_script.specs.declared.script.Line.{Line}
use Rattle.level_script.specs.declared.script.Script.{Script}

-- whether a lane's frame is open after a command of the lane
abbrev pub opened_after : LaneCmd → Bool → Bool
opened_after command was = opened_by (frame_by command) was

-- the frame is as it has to be, and all of these are there, where there are so many variables, classes and names of fields
abbrev pub fit_all : ℕ → ℕ → ℕ → Bool → List Known → Bool
fit_all vars classes fields so [] = so
fit_all vars classes fields so (k ∷ ks) = fit_all vars classes fields (so && fits_known vars classes fields k) ks

-- a lane with so many variables may have this command: its frame is as the command needs it, and all that the command names is there
abbrev pub fits_lane : ℕ → ℕ → ℕ → Bool → LaneCmd → Bool
fits_lane vars classes fields opened command = fit_all vars classes fields (allows (frame_by command) opened) (named_by command)

-- the weak variables and the strong pointers that a command names are there, where there are so many
abbrev pub fits_script : ℕ → ℕ → Cmd → Bool
fits_script weaks strong (cmd.Lane lane command) = list_all (fits_beside weaks strong) (beside_by command)
fits_script weaks strong (cmd.Gc command) = true

-- the command is one of a lane that there is, and fits it, while the lanes' frames are so; or it is the collector's
abbrev pub fits : List ℕ → ℕ → ℕ → List Bool → Cmd → Bool
fits vars classes fields frames (cmd.Lane lane command) = nat_lt lane (length frames) && fits_lane (slice_index vars lane) classes fields (slice_index_or frames lane false) command
fits vars classes fields frames (cmd.Gc command) = true

-- the lanes' frames after a command
abbrev pub frames_after : List Bool → Cmd → List Bool
frames_after frames (cmd.Lane lane command) = slice_set frames lane (opened_after command (slice_index_or frames lane false))
frames_after frames (cmd.Gc command) = frames

-- each line fits, from these frames on
unfoldable pub are_framed : List ℕ → ℕ → ℕ → List Bool → List Line → Bool
are_framed vars classes fields frames [] = true
are_framed vars classes fields frames (line ∷ lines) = fits vars classes fields frames line.cmd && are_framed vars classes fields (frames_after frames line.cmd) lines

-- the objects of the class are ready as soon as they are asked
abbrev pub IsAtOnce : Class → Type 0
IsAtOnce class = class.ready ≡ ready.After 0

-- the class has an identifier as its name, and so each byte of the name is a letter, a digit or `_`
pub record IsNamed (class : Class) : Type 0 where
  pub identifier : is_identifier class.name ≡ true
  pub bytes : list_all continues_identifier class.name ≡ true

-- a script that can be played: it has the lanes and the slots of the limits and a class, the classes are ready at once and have identifiers as names, each line fits where it stands, with all frames closed at first, and the weak variables and strong pointers that it names are there
pub record IsPlayable (limits : Limits) (script : Script) : Type 0 where
  pub lanes : length script.vars ≡ limits.lanes
  pub slots : script.classes.slots ≡ limits.slots
  pub classes : 0 < length script.classes.classes
  pub at_once : AllByRecursion IsAtOnce script.classes.classes
  pub named : AllByRecursion IsNamed script.classes.classes
  pub framed : are_framed script.vars (length script.classes.classes) (length script.fields) (replicate limits.lanes false) script.lines ≡ true
  pub beside : list_all (λ line. fits_script script.weaks limits.strong line.cmd) script.lines ≡ true
