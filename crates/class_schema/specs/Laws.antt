-- What follows for each table.
use Rattle.std.specs.Prelude.{◌≡◌, ℕ, ◌+◌, ◌-◌, ◌<◌, ◌≤◌, true, false, List, ◌++◌, length, Option, Some, None, slice_get}
use Rattle.class_schema.specs.Types.{ClassId, Field}
use Rattle.class_schema.specs.Class.{Declaration, Class, Schema}
use Rattle.class_schema.specs.Layout.{Placed, is_ref, slot_of}
use Rattle.class_schema.specs.Ancestry.{class_at, parents, IsA, is_a, fields}
use Rattle.class_schema.specs.Table.{placed_fields, find_field, kind_of}
use Rattle.class_schema.specs.Lawful.{IsSchema}

-- an element of a field of a class: which of its fields it is, and which of the field's elements
pub record Element (t : Schema) (class : ClassId) : Type 0 where
  pub place : ℕ
  pub field : Placed
  pub is : slice_get (placed_fields t class) place ≡ Some field
  pub element : ℕ
  pub within : element < field.declared.count

-- where the law of layout puts the elements of a class
pub record IsLaidOut (t : Schema) (class : ClassId) : Type 0 where
  -- each element has a slot of its own
  pub apart : (d e : Element t class) → slot_of d.field d.element ≡ slot_of e.field e.element → (d.place ≡ e.place) × (d.element ≡ e.element)
  -- references have the slots below `refs`, and all of these
  pub refs : (e : Element t class) → is_ref e.field.declared.kind ≡ true → slot_of e.field e.element < (kind_of t class).refs
  pub all_refs : (n : ℕ) → n < (kind_of t class).refs → (e : Element t class) × (is_ref e.field.declared.kind ≡ true) × (slot_of e.field e.element ≡ n)
  -- all else has the last `plain` slots, and all of these
  pub plain : (e : Element t class) → is_ref e.field.declared.kind ≡ false → (t.slots - (kind_of t class).plain ≤ slot_of e.field e.element) × (slot_of e.field e.element < t.slots)
  pub all_plain : (n : ℕ) → t.slots - (kind_of t class).plain ≤ n → n < t.slots → (e : Element t class) × (is_ref e.field.declared.kind ≡ false) × (slot_of e.field e.element ≡ n)
  -- there are slots for both
  pub fits : (kind_of t class).refs + (kind_of t class).plain ≤ t.slots

-- each class is laid out so
abbrev pub LaidOut : Type 0
LaidOut = (t : Schema) → IsSchema t → (class : ClassId) → class.0 < length t.classes → IsLaidOut t class

-- the fields of a class, by its parent
abbrev pub HasFieldsOf : List Class → Class → List Declaration → Option ClassId → Type 0
HasFieldsOf classes class all None = all ≡ class.own
HasFieldsOf classes class all (Some parent) = all ≡ fields classes parent ++ class.own

-- each class has its parent's fields, and then its own
abbrev pub FieldsInherited : Type 0
FieldsInherited =
    (t : Schema) → IsSchema t → (class : ClassId) → class.0 < length t.classes
    → HasFieldsOf t.classes (class_at t.classes class) (fields t.classes class) (class_at t.classes class).parent

-- a field that a class has, each class below it has, in the same slots
abbrev pub SlotsInherited : Type 0
SlotsInherited =
    (t : Schema) → IsSchema t → (class of : ClassId) → class.0 < length t.classes → IsA (parents t.classes) class of → (name : List ℕ) (field : Field)
    → find_field t of name ≡ Some field → find_field t class name ≡ Some field

-- the test of ancestry answers what ancestry is
abbrev pub AncestryTested : Type 0
AncestryTested =
    (t : Schema) → IsSchema t → (class of : ClassId)
    → (is_a t.classes class of ≡ true → IsA (parents t.classes) class of) × (IsA (parents t.classes) class of → is_a t.classes class of ≡ true)
