-- What the lines so far have made known, and what one more line adds.
use Rattle.std.specs.Prelude.{◌≡◌, ℕ, ◌≤◌, nat_le, true, false, ◌&&◌, List, [], ◌∷◌, ◌++◌, map, replicate, length, Option, Some, None, option_map, Result, Ok, Err, slice_get, slice_set, if◌then◌else◌}
use Rattle.world_model.specs.declared.kind.ClassId.{ClassId}
use Rattle.class_schema.specs.Class.{Class, Schema}
use Rattle.class_schema.specs.Ancestry.{object}
use Rattle.class_schema.specs.Table.{find_class, added, field_added}
use Rattle.class_schema.specs.declared.field.FieldKind.{FieldKind}
use Rattle.class_schema.specs.declared.field.FieldKind.TheVariants as kind
use Rattle.class_schema.specs.declared.refusal.SchemaErr.{SchemaErr}
use Rattle.level_script.specs.Commands.{said_by_line}
use Rattle.level_script.specs.Lanes.{closed_lane, count_of, lane_step, lane_index}
use Rattle.level_script.specs.Names.{with_name}
use Rattle.level_script.specs.declared.cause.Cause.{Cause}
use Rattle.level_script.specs.declared.cause.Cause.TheVariants as cause
use Rattle.level_script.specs.declared.cause.Stop.{Stop}
use Rattle.level_script.specs.declared.cause.Stop.TheVariants as stop
use Rattle.level_script.specs.declared.context.Context.{Context}
use Rattle.level_script.specs.declared.lanes.LaneNames.{LaneNames}
use Rattle.level_script.specs.declared.limits.Limits.{Limits}
use Rattle.level_script.specs.declared.operand.Binds.{Binds}
use Rattle.level_script.specs.declared.operand.Binds.TheVariants as binds
use Rattle.level_script.specs.declared.said.Does.{Does}
use Rattle.level_script.specs.declared.said.FieldOf.{FieldOf}
use Rattle.level_script.specs.declared.said.FieldOf.TheVariants as of
use Rattle.level_script.specs.declared.said.Said.{Said}
use Rattle.level_script.specs.declared.said.Said.TheVariants as said
use Rattle.level_script.specs.declared.script.Cmd.{Cmd}
use Rattle.level_script.specs.declared.script.Cmd.TheVariants as cmd
use Rattle.level_script.specs.declared.script.Script.{Script}
use Rattle.level_script.specs.declared.lane_cmd.LaneCmd.{LaneCmd}
use Rattle.level_script.specs.declared.script.GcCmd.TheVariants as gc_cmd
use Rattle.level_script.specs.declared.tables.Tables.{Tables}

-- limits in their ranges
pub record AreLawful (limits : Limits) : Type 0 where
  pub some_lanes : 1 ≤ limits.lanes
  pub few_lanes : limits.lanes ≤ 8
  pub some_slots : 1 ≤ limits.slots
  pub few_slots : limits.slots ≤ 64
  pub some_strong : 1 ≤ limits.strong
  pub few_strong : limits.strong ≤ 1024
  pub some_markers : 1 ≤ limits.markers
  pub few_markers : limits.markers ≤ 16

-- what is known before the first line
abbrev pub start : Limits → Context
start limits = record { tables = record { classes = record { slots = limits.slots; classes = object ∷ [] }; fields = []; weaks = []; strong = limits.strong }; in_header = true; lanes = replicate limits.lanes closed_lane; lines = [] }

-- a line that does something, which ends the header
abbrev pub with_line : Context → ℕ → Cmd → Context
with_line c number command = record { tables = c.tables; in_header = false; lanes = c.lanes; lines = c.lines ++ record { number = number; cmd = command } ∷ [] }

-- the same context with other tables
abbrev pub with_tables : Context → Tables → Context
with_tables c tables = record { tables = tables; in_header = c.in_header; lanes = c.lanes; lines = c.lines }

-- the table of classes that a line leaves
abbrev pub with_classes : Context → Result Schema SchemaErr → Result Context Cause
with_classes c (Ok classes) = Ok (with_tables c (record { classes = classes; fields = c.tables.fields; weaks = c.tables.weaks; strong = c.tables.strong }))
with_classes c (Err refusal) = Err (cause.Schema refusal)

-- the same of a line that tells a field, whose name is known then
abbrev pub with_named : Context → List ℕ → Result Schema SchemaErr → Result Context Cause
with_named c name (Ok classes) = Ok (with_tables c (record { classes = classes; fields = with_name c.tables.fields name; weaks = c.tables.weaks; strong = c.tables.strong }))
with_named c name (Err refusal) = Err (cause.Schema refusal)

-- a line of the header that tells a class
abbrev pub after_class : ℕ → Context → List ℕ → List ℕ → Result Context Cause
after_class number c name parent = with_classes c (added c.tables.classes number name parent)

-- how many elements a field has: one where the line does not say it, and else 1 to 64
abbrev pub elements_in : Option (Option ℕ) → Option ℕ
elements_in None = Some 1
elements_in (Some (Some number)) = if nat_le 1 number && nat_le number 64 then Some number else None
elements_in (Some None) = None

-- what the elements of a field are, if the class of references is known
abbrev pub kind_found : List Class → FieldOf → Option FieldKind
kind_found classes (of.Ref name) = option_map kind.Ref (find_class classes name)
kind_found classes of.Weak = Some kind.Weak
kind_found classes of.Int = Some kind.Int

-- a field of a class that is known, with elements that are
abbrev pub field_known : ℕ → Context → List ℕ → ℕ → Option ClassId → Option FieldKind → Result Context Cause
field_known number c name count None what = Err cause.UnknownName
field_known number c name count (Some class) None = Err cause.UnknownName
field_known number c name count (Some class) (Some what) = with_named c name (field_added c.tables.classes class (record { name = name; line = number; kind = what; count = count }))

abbrev pub field_counted : ℕ → Context → List ℕ → List ℕ → FieldOf → Option ℕ → Result Context Cause
field_counted number c class name what None = Err cause.Number
field_counted number c class name what (Some count) = field_known number c name count (find_class c.tables.classes.classes class) (kind_found c.tables.classes.classes what)

-- a line of the header that tells a field
abbrev pub after_field : ℕ → Context → List ℕ → List ℕ → FieldOf → Option (Option ℕ) → Result Context Cause
after_field number c class name what count = field_counted number c class name what (elements_in count)

-- the names of weak variables after a line that binds this
abbrev pub more_weaks : Binds → List (List ℕ) → List (List ℕ)
more_weaks binds.Nothing weaks = weaks
more_weaks (binds.Var var) weaks = weaks
more_weaks (binds.Weak weak) weaks = with_name weaks weak
more_weaks (binds.Members members) weaks = weaks

-- the tables after it
abbrev pub with_weak : Binds → Tables → Tables
with_weak what t = record { classes = t.classes; fields = t.fields; weaks = more_weaks what t.weaks; strong = t.strong }

-- what a lane's line leaves that binds this, and the line
abbrev pub with_lane : ℕ → Context → ℕ → Binds → Result (LaneNames × LaneCmd) Cause → Result Context Cause
with_lane number c index what (Ok (lane, command)) =
    Ok
    (with_line (record { tables = with_weak what c.tables; in_header = c.in_header; lanes = slice_set c.lanes index lane; lines = c.lines })
    number (cmd.Lane index command))
with_lane number c index what (Err why) = Err why

-- the same of the lane at a place
abbrev pub lane_at : ℕ → Context → ℕ → Option LaneNames → Does → Result Context Cause
lane_at number c index None does = Err cause.Number
lane_at number c index (Some lane) does = with_lane number c index does.binds (lane_step c.tables lane does)

-- the same of a lane that may be there
abbrev pub lane_of : ℕ → Context → Option ℕ → Does → Result Context Cause
lane_of number c None does = Err cause.Number
lane_of number c (Some index) does = lane_at number c index (slice_get c.lanes index) does

-- a line of a lane; a number that names no lane is out of its range
abbrev pub after_lane_line : ℕ → Context → Option ℕ → Does → Result Context Cause
after_lane_line number c lane does = lane_of number c (lane_index (length c.lanes) lane) does

-- what is known after a line that says this, or what is wrong with it
abbrev pub after_said : ℕ → Context → Said → Result Context Cause
after_said number c said.Nothing = Ok c
after_said number c (said.Class name parent) = after_class number c name parent
after_said number c (said.Field class name what count) = after_field number c class name what count
after_said number c said.Full = Ok (with_line c number (cmd.Gc gc_cmd.Full))
after_said number c (said.Lane lane does) = after_lane_line number c lane does

-- the same of a line that may be wrong
abbrev pub if_said : ℕ → Context → Result Said Cause → Result Context Cause
if_said number c (Ok what) = after_said number c what
if_said number c (Err why) = Err why

-- what is known after a line, or what is wrong with it
abbrev pub after_line : ℕ → Context → List ℕ → Result Context Cause
after_line number c line = if_said number c (said_by_line c.in_header line)

-- the context that is left is what is wanted, and so is the cause; there may be no memory for it
abbrev pub Takes : {A : Type 0} → Result Context Cause → Context → Result A Stop → Type 0
Takes want new (Ok done) = want ≡ Ok new
Takes want new (Err (stop.Faulty why)) = want ≡ Err why
Takes want new (Err stop.Memory) = Unit {0}

-- the script that all lines are
abbrev pub script_from : Context → Script
script_from c = record { classes = c.tables.classes; fields = c.tables.fields; lines = c.lines; vars = map count_of c.lanes; weaks = length c.tables.weaks }
