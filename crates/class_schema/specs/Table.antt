-- What the calls of a table answer, and what they make of it.
use Rattle.std.specs.Prelude.{◌≡◌, ℕ, ◌+◌, nat_le, nat_lt, Bool, List, [], ◌∷◌, ◌++◌, length, Option, Some, None, option_map, position, Result, Ok, Err, IsOk, if◌then◌else◌, slice_set}
use Rattle.std.specs.List.{find, list_any}
use Rattle.std.specs.Str.{bytes_eq}
use Rattle.class_schema.specs.Types.{ClassId, Kind, Ready, Field, SchemaErr, AddErr}
use Rattle.class_schema.specs.Types.refusal
use Rattle.class_schema.specs.Types.add
use Rattle.class_schema.specs.Class.{Declaration, Class, Schema}
use Rattle.class_schema.specs.Layout.{Placed, layout, as_field, ref_slots, plain_slots, used_slots}
use Rattle.class_schema.specs.Ancestry.{class_at, parents, has_children, fields}

-- ---- looking up

-- the class has this name
abbrev pub is_named : List ℕ → Class → Bool
is_named name class = bytes_eq name class.name

-- the id of a class by its place
abbrev pub id_of : ℕ → ClassId
id_of index = record { 0 = index }

-- the class of this name
unfoldable pub find_class : List Class → List ℕ → Option ClassId
find_class classes name = option_map id_of (position (is_named name) classes)

-- the line that told the class of this name
unfoldable pub taken : List Class → List ℕ → Option ℕ
taken classes name = option_map (λ class. class.line) (find (is_named name) classes)

-- the field has this name
abbrev pub is_called : List ℕ → Declaration → Bool
is_called name field = bytes_eq name field.name

-- the line that told the field of this name, of the class or an ancestor
unfoldable pub field_line : List Class → ClassId → List ℕ → Option ℕ
field_line classes class name = option_map (λ field. field.line) (find (is_called name) (fields classes class))

-- the fields of a class, each with its first slot
abbrev pub placed_fields : Schema → ClassId → List Placed
placed_fields t class = layout t.slots [] (fields t.classes class)

-- the field of this name, of the class or an ancestor
unfoldable pub find_field : Schema → ClassId → List ℕ → Option Field
find_field t class name = option_map as_field (find (λ placed. is_called name placed.declared) (placed_fields t class))

-- some class has a field of this name
unfoldable pub has_field : List Class → List ℕ → Bool
has_field classes name = list_any (λ class. list_any (is_called name) class.own) classes

-- what the objects of a class are made of
abbrev pub kind_of : Schema → ClassId → Kind
kind_of t class =
    record {
      class = class;
      refs = ref_slots (fields t.classes class);
      plain = plain_slots (fields t.classes class);
      ready = (class_at t.classes class).ready;
    }

-- ---- one more class

-- the parent of a new class, where there is room for one
abbrev pub room_for : List Class → Option ClassId → Result ClassId SchemaErr
room_for classes None = Err refusal.NoParent
room_for classes (Some parent) = if nat_le 4096 (length classes) then Err refusal.TooManyClasses else Ok parent

-- the same of a name that may be taken
abbrev pub admitted_unless : List Class → Option ℕ → List ℕ → Result ClassId SchemaErr
admitted_unless classes (Some line) parent = Err (refusal.NameTaken line)
admitted_unless classes None parent = room_for classes (find_class classes parent)

-- the parent of a new class of this name, or why there can be none
abbrev pub admitted : List Class → List ℕ → List ℕ → Result ClassId SchemaErr
admitted classes name parent = admitted_unless classes (taken classes name) parent

-- a class that adds nothing to its parent yet
abbrev pub child : List Class → ℕ → List ℕ → ClassId → Class
child classes line name parent = record { name = name; line = line; parent = Some parent; own = []; ready = (class_at classes parent).ready }

-- the table with a new class
abbrev pub with_class : Schema → ℕ → List ℕ → ClassId → Schema
with_class t line name parent = record { slots = t.slots; classes = t.classes ++ child t.classes line name parent ∷ [] }

-- the table with a class below this parent
abbrev pub added_below : Schema → ℕ → List ℕ → Result ClassId SchemaErr → Result Schema SchemaErr
added_below t line name (Ok parent) = Ok (with_class t line name parent)
added_below t line name (Err why) = Err why

-- the table with a class that a line tells, or why it is refused
abbrev pub added : Schema → ℕ → List ℕ → List ℕ → Result Schema SchemaErr
added t line name parent = added_below t line name (admitted t.classes name parent)

-- what adding a class answers, and what it leaves
abbrev pub AddsClass : Schema → ℕ → List ℕ → List ℕ → Schema → Result ClassId AddErr → Type 0
AddsClass old line name parent new (Ok id) = (added old line name parent ≡ Ok new) × (id ≡ id_of (length old.classes))
AddsClass old line name parent new (Err (add.Schema why)) = (added old line name parent ≡ Err why) × (new ≡ old)
AddsClass old line name parent new (Err add.Memory) = IsOk (added old line name parent) × (new ≡ old)

-- ---- one more field

-- why so many slots cannot be had beside those that are used
abbrev pub no_room : ℕ → ℕ → ℕ → Option SchemaErr
no_room slots used asked = if nat_lt slots (used + asked) then Some (refusal.TooManySlots used asked) else None

-- why a field of a name that may be taken is refused
abbrev pub refused_unless : Option ℕ → Option SchemaErr → Option SchemaErr
refused_unless (Some line) room = Some (refusal.NameTaken line)
refused_unless None room = room

-- why a field of this name and count is refused
abbrev pub field_refusal : Schema → ClassId → List ℕ → ℕ → Option SchemaErr
field_refusal t class name count =
    if has_children (parents t.classes) class then Some refusal.HasChildren
    else refused_unless (field_line t.classes class name) (no_room t.slots (used_slots (fields t.classes class)) count)

-- the class with one more field
abbrev pub with_own : Class → Declaration → Class
with_own class field = record class { own = class.own ++ field ∷ [] }

-- the table with one more field of a class
abbrev pub with_field : Schema → ClassId → Declaration → Schema
with_field t class field = record { slots = t.slots; classes = slice_set t.classes class.0 (with_own (class_at t.classes class) field) }

-- the changed table, if nothing refuses it
abbrev pub unless_refused : Schema → Option SchemaErr → Result Schema SchemaErr
unless_refused t None = Ok t
unless_refused t (Some why) = Err why

-- the table with a field of a class, or why it is refused
abbrev pub field_added : Schema → ClassId → Declaration → Result Schema SchemaErr
field_added t class field = unless_refused (with_field t class field) (field_refusal t class field.name field.count)

-- what adding a field answers, and what it leaves
abbrev pub AddsField : Schema → ClassId → Declaration → Schema → Result Unit AddErr → Type 0
AddsField old class field new (Ok done) = field_added old class field ≡ Ok new
AddsField old class field new (Err (add.Schema why)) = (field_added old class field ≡ Err why) × (new ≡ old)
AddsField old class field new (Err add.Memory) = IsOk (field_added old class field) × (new ≡ old)

-- ---- readiness

-- the table with another readiness of a class
abbrev pub with_ready : Schema → ClassId → Ready → Schema
with_ready t class ready = record { slots = t.slots; classes = slice_set t.classes class.0 (record (class_at t.classes class) { ready = ready }) }

-- why a class is not changed
abbrev pub change_refusal : List Class → ClassId → Option SchemaErr
change_refusal classes class = if has_children (parents classes) class then Some refusal.HasChildren else None

-- the table with another readiness of a class, or why it is refused
abbrev pub ready_set : Schema → ClassId → Ready → Result Schema SchemaErr
ready_set t class ready = unless_refused (with_ready t class ready) (change_refusal t.classes class)

-- what setting a readiness answers, and what it leaves
abbrev pub SetsReady : Schema → ClassId → Ready → Schema → Result Unit SchemaErr → Type 0
SetsReady old class ready new (Ok done) = ready_set old class ready ≡ Ok new
SetsReady old class ready new (Err why) = (ready_set old class ready ≡ Err why) × (new ≡ old)
