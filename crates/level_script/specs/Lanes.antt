-- What a line of a lane does to the lane's frame and variables.
use Rattle.std.specs.Prelude.{◌≡◌, ℕ, nat_lt, Bool, true, false, ◌&&◌, List, [], ◌∷◌, map, length, Option, Some, None, option_map, Result, Ok, Err, MatchOption, slice_get, slice_set, if◌then◌else◌}
use Rattle.std.specs.Str.{bytes_eq}
use Rattle.world_model.specs.declared.kind.ClassId.{ClassId}
use Rattle.class_schema.specs.Class.{Class}
use Rattle.class_schema.specs.Table.{find_class}
use Rattle.level_script.specs.LaneCommands.{frame_of, command_of}
use Rattle.level_script.specs.Operands.{allows, below, element_in, is_in_range}
use Rattle.level_script.specs.Names.{number_of_name, number_in, with_name, has_number, with_number, all_differ}
use Rattle.level_script.specs.declared.cause.Cause.{Cause}
use Rattle.level_script.specs.declared.cause.Cause.TheVariants as cause
use Rattle.level_script.specs.declared.cause.Stop.{Stop}
use Rattle.level_script.specs.declared.cause.Stop.TheVariants as stop
use Rattle.level_script.specs.declared.lanes.LaneNames.{LaneNames}
use Rattle.level_script.specs.declared.lane_cmd.LaneCmd.{LaneCmd}
use Rattle.level_script.specs.declared.lane_cmd.Member.{Member}
use Rattle.level_script.specs.declared.lane_cmd.Verb.{Verb}
use Rattle.level_script.specs.declared.operand.Binds.{Binds}
use Rattle.level_script.specs.declared.operand.Binds.TheVariants as binds
use Rattle.level_script.specs.declared.operand.Frame.{Frame}
use Rattle.level_script.specs.declared.operand.Frame.TheVariants as frame
use Rattle.level_script.specs.declared.operand.Known.{Known}
use Rattle.level_script.specs.declared.operand.Known.TheVariants as known
use Rattle.level_script.specs.declared.operand.Operand.{Operand}
use Rattle.level_script.specs.declared.operand.Operand.TheVariants as operand
use Rattle.level_script.specs.declared.operand.Place.{Place}
use Rattle.level_script.specs.declared.said.Does.{Does}
use Rattle.level_script.specs.declared.script.Spot.{Spot}
use Rattle.level_script.specs.declared.tables.Tables.{Tables}

-- a lane whose frame was never open
abbrev pub closed_lane : LaneNames
closed_lane = record { opened = false; names = []; bound = [] }

-- how many object variables a lane has
abbrev pub count_of : LaneNames → ℕ
count_of lane = length lane.names

-- ---- variables

-- the number, if it is bound
abbrev pub if_bound : List ℕ → Option ℕ → Option ℕ
if_bound bound None = None
if_bound bound (Some number) = if has_number bound number then Some number else None

-- the number of a variable that is bound in the open frame
abbrev pub bound_var : LaneNames → List ℕ → Option ℕ
bound_var lane name = if_bound lane.bound (number_of_name lane.names name)

-- the lane after a variable is bound
abbrev pub with_var : List ℕ → LaneNames → LaneNames
with_var var lane = record { opened = lane.opened; names = with_name lane.names var; bound = with_number lane.bound (number_in lane.names var) }

-- the lane after the variables of members are bound, one after another
abbrev pub with_vars : List (List ℕ × List ℕ) → LaneNames → LaneNames
with_vars [] lane = lane
with_vars ((var, class) ∷ members) lane = with_vars members (with_var var lane)

-- the lane after a line that binds this
abbrev pub with_bound : Binds → LaneNames → LaneNames
with_bound binds.Nothing lane = lane
with_bound (binds.Weak weak) lane = lane
with_bound (binds.Var var) lane = with_var var lane
with_bound (binds.Members members) lane = with_vars members lane

-- ---- members of a cluster

-- a member and those behind it, if their classes are known
abbrev pub with_member : ℕ → Option ClassId → Option (List Member) → Option (List Member)
with_member var None members = None
with_member var (Some class) None = None
with_member var (Some class) (Some members) = Some (record { var = var; class = class } ∷ members)

-- the members where the lane has these variables, if all classes are known
abbrev pub members_found : List Class → List (List ℕ) → List (List ℕ × List ℕ) → Option (List Member)
members_found classes names [] = Some []
members_found classes names ((var, class) ∷ members) = with_member (number_in names var) (find_class classes class) (members_found classes (with_name names var) members)

-- no two members have one variable
abbrev pub are_apart : List (List ℕ × List ℕ) → Bool
are_apart members = all_differ bytes_eq (map (λ m. m.0) members)

-- what stands for something that is known, or not
abbrev pub or_unknown : {A : Type 0} → Option A → Result A Cause
or_unknown None = Err cause.UnknownName
or_unknown (Some found) = Ok found

-- the members that are bound, if their classes are known, and no variable stands twice
abbrev pub if_apart : Bool → Result (List Member) Cause → Result Known Cause
if_apart apart (Err why) = Err why
if_apart apart (Ok members) = if apart then Ok (known.Members members) else Err cause.NameTwice

abbrev pub members_bound : Bool → Option (List Member) → Result Known Cause
members_bound apart members = if_apart apart (or_unknown members)

-- what is bound: a variable by its number, members of a cluster each with its class
abbrev pub known_bound : Tables → LaneNames → Binds → Result Known Cause
known_bound t lane binds.Nothing = Ok known.Nothing
known_bound t lane (binds.Var var) = Ok (known.Var (number_in lane.names var))
known_bound t lane (binds.Weak weak) = Ok (known.Weak (number_in t.weaks weak))
known_bound t lane (binds.Members members) = members_bound (are_apart members) (members_found t.classes.classes lane.names members)

-- the lane after a line that does this to its frame; a close ends the variables
abbrev pub with_frame : Frame → LaneNames → LaneNames
with_frame frame.Opens lane = record { opened = true; names = lane.names; bound = lane.bound }
with_frame frame.Closes lane = record { opened = false; names = lane.names; bound = [] }
with_frame frame.Inside lane = lane
with_frame frame.Anywhere lane = lane

-- ---- what words stand for

-- an element of a variable that is bound, in a field whose name is known
abbrev pub spot_with : Option ℕ → Option ℕ → Option ℕ → Option Spot
spot_with None var field = None
spot_with (Some element) None field = None
spot_with (Some element) (Some var) None = None
spot_with (Some element) (Some var) (Some field) = Some (record { var = var; field = field; element = element })

abbrev pub spot_found : LaneNames → List (List ℕ) → Place → Option Spot
spot_found lane fields place = spot_with (element_in place.element) (bound_var lane place.var) (number_of_name fields place.field)

-- the number of the weak variable whose value is stored, or none
abbrev pub weak_target : List (List ℕ) → Option (List ℕ) → Option (Option ℕ)
weak_target weaks None = Some None
weak_target weaks (Some name) = option_map Some (number_of_name weaks name)

-- the number of the variable whose object is stored, or none
abbrev pub bound_target : LaneNames → Option (List ℕ) → Option (Option ℕ)
bound_target lane None = Some None
bound_target lane (Some name) = option_map Some (bound_var lane name)

-- what a word stands for, if its names are known
abbrev pub known_of : Tables → LaneNames → Operand → Option Known
known_of t lane operand.Nothing = Some known.Nothing
known_of t lane (operand.Var name) = option_map known.Var (bound_var lane name)
known_of t lane (operand.Target to) = option_map known.Target (bound_target lane to)
known_of t lane (operand.Class name) = option_map known.Class (find_class t.classes.classes name)
known_of t lane (operand.Spot place) = option_map known.Spot (spot_found lane t.fields place)
known_of t lane (operand.Switch on) = Some (known.Switch on)
known_of t lane (operand.Value number) = option_map known.Value number
known_of t lane (operand.Strong number) = option_map known.Strong (below t.strong number)
known_of t lane (operand.Index number) = option_map known.Index (element_in number)
known_of t lane (operand.Weak name) = option_map known.Weak (number_of_name t.weaks name)
known_of t lane (operand.WeakTarget to) = option_map known.WeakTarget (weak_target t.weaks to)

-- what the words of a command stand for, but for those that are bound
abbrev pub operands_known : Option Known → Option Known → Option (Known × Known)
operands_known None second = None
operands_known (Some first) None = None
operands_known (Some first) (Some second) = Some (first, second)

-- ---- all of it

-- the command, if all names are known, and what is bound may be
abbrev pub command_bound : Verb → Result Known Cause → Known → Known → Result LaneCmd Cause
command_bound verb (Err why) first second = Err why
command_bound verb (Ok bound) first second = or_unknown (command_of verb bound first second)

abbrev pub command_known : Verb → Result Known Cause → Option (Known × Known) → Result LaneCmd Cause
command_known verb bound None = Err cause.UnknownName
command_known verb bound (Some (first, second)) = command_bound verb bound first second

abbrev pub command_found : Tables → LaneNames → Does → Result LaneCmd Cause
command_found t lane does =
    command_known does.verb (known_bound t lane does.binds) (operands_known (known_of t lane does.first) (known_of t lane does.second))

-- the lane after the line
abbrev pub left_by : Does → LaneNames → LaneNames
left_by does lane = with_bound does.binds (with_frame (frame_of does.verb) lane)

abbrev pub with_command : {A : Type 0} → LaneNames → Result A Cause → Result (LaneNames × A) Cause
with_command left (Err why) = Err why
with_command left (Ok command) = Ok (left, command)

-- what a line of a lane does to it, and the command that it is: its numbers are in their ranges, then its frame is as it has to be, then its names are known, then no variable stands twice in it
abbrev pub lane_step : Tables → LaneNames → Does → Result (LaneNames × LaneCmd) Cause
lane_step t lane does =
    if is_in_range t.strong does.first && is_in_range t.strong does.second then
    (if allows (frame_of does.verb) lane.opened then with_command (left_by does lane) (command_found t lane does) else Err cause.Frame)
    else Err cause.Number

-- the lane that a number names
abbrev pub lane_index : ℕ → Option ℕ → Option ℕ
lane_index count (Some number) = if nat_lt number count then Some number else None
lane_index count None = None

-- the answer is what is wanted, and so is the lane that is left; there may be no memory for it
abbrev pub Steps : {A : Type 0} → Result (LaneNames × A) Cause → LaneNames → Result A Stop → Type 0
Steps want new (Ok command) = want ≡ Ok (new, command)
Steps want new (Err (stop.Faulty why)) = want ≡ Err why
Steps want new (Err stop.Memory) = Unit {0}

-- the lane at this place has done what it says, and no other has done anything
abbrev pub StepsAt : Tables → List LaneNames → ℕ → Does → List LaneNames → Result LaneCmd Stop → Type 0
StepsAt t old index what new result =
    MatchOption (slice_get old index) ⊥ (λ lane. (left : LaneNames) × (new ≡ slice_set old index left) × Steps (lane_step t lane what) left result)
