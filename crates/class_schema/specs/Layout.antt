-- Where the fields of a class lie in its objects.
use Rattle.std.specs.Prelude.{ℕ, ◌+◌, ◌-◌, Bool, true, false, List, [], ◌∷◌, ◌++◌, if◌then◌else◌}
use Rattle.std.specs.List.{sum_by}
use Rattle.class_schema.specs.Types.{Field, FieldKind}
use Rattle.class_schema.specs.Types.kind
use Rattle.class_schema.specs.Class.{Declaration}

-- the elements are references, which the collector follows; those of all other fields are plain
abbrev pub is_ref : FieldKind → Bool
is_ref (kind.Ref class) = true
is_ref kind.Weak = false
is_ref kind.Int = false

-- how many reference slots a field takes
abbrev pub ref_count : Declaration → ℕ
ref_count field = if is_ref field.kind then field.count else 0

-- how many plain slots a field takes
abbrev pub plain_count : Declaration → ℕ
plain_count field = if is_ref field.kind then 0 else field.count

-- how many reference slots some fields take
abbrev pub ref_slots : List Declaration → ℕ
ref_slots fields = sum_by ref_count fields

-- how many plain slots some fields take
abbrev pub plain_slots : List Declaration → ℕ
plain_slots fields = sum_by plain_count fields

-- how many slots some fields take
abbrev pub used_slots : List Declaration → ℕ
used_slots fields = sum_by (λ field. field.count) fields

-- The first slot of a field behind others: references go from slot 0 upwards, all else from the last slot downwards.
abbrev pub first_slot : ℕ → List Declaration → FieldKind → ℕ
first_slot slots before kind = if is_ref kind then ref_slots before else (slots - 1) - plain_slots before

-- a field, and its first slot
pub record Placed : Type 0 where
  pub declared : Declaration
  pub first : ℕ

-- the fields behind others, each with its first slot
abbrev pub layout : ℕ → List Declaration → List Declaration → List Placed
layout slots before [] = []
layout slots before (field ∷ fields) = record { declared = field; first = first_slot slots before field.kind } ∷ layout slots (before ++ field ∷ []) fields

-- the slot of an element of a field
abbrev pub slot_of : Placed → ℕ → ℕ
slot_of placed element = if is_ref placed.declared.kind then placed.first + element else placed.first - element

-- the field as it is answered
abbrev pub as_field : Placed → Field
as_field placed = record { kind = placed.declared.kind; first = placed.first; count = placed.declared.count }
