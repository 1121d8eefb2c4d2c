-- What is true of each table.
use Rattle.std.specs.Prelude.{◌≡◌, ◌≢◌, ℕ, ◌+◌, ◌-◌, ◌<◌, ◌≤◌, nat_lt, Bool, true, false, length, Option, Some, None, IsTrue, codes}
use Rattle.std.specs.List.{All, AllPairs}
use Rattle.world_model.specs.LaneSteps.{is_readiness}
use Rattle.class_schema.specs.Types.{ClassId, Field, FieldKind}
use Rattle.class_schema.specs.Types.kind
use Rattle.class_schema.specs.Class.{Declaration, Schema}
use Rattle.class_schema.specs.Layout.{is_ref, used_slots}
use Rattle.class_schema.specs.Ancestry.{class_at, fields}
use Rattle.class_schema.specs.Table.{id_of, kind_of}

-- references are to objects of one of so many classes
abbrev pub has_target : ℕ → FieldKind → Bool
has_target class_count (kind.Ref class) = nat_lt class.0 class_count
has_target class_count kind.Weak = true
has_target class_count kind.Int = true

-- a field in a table of so many classes
pub record IsField (class_count : ℕ) (field : Declaration) : Type 0 where
  pub some : 1 ≤ field.count
  pub few : field.count ≤ 64
  pub target : IsTrue (has_target class_count field.kind)

-- each class but the first has a parent, which stands before it
abbrev pub HasParent : ClassId → Option ClassId → Type 0
HasParent id None = id.0 ≡ 0
HasParent id (Some parent) = parent.0 < id.0

-- a class in a table
pub record IsClass (t : Schema) (id : ClassId) : Type 0 where
  pub older : HasParent id (class_at t.classes id).parent
  pub whole : All (IsField (length t.classes)) (fields t.classes id)
  pub different : AllPairs (λ f g. f.name ≢ g.name) (fields t.classes id)
  pub fits : used_slots (fields t.classes id) ≤ t.slots
  pub ready : IsTrue (is_readiness (class_at t.classes id).ready)

-- a table
pub record IsSchema (t : Schema) : Type 0 where
  pub some_slots : 1 ≤ t.slots
  pub few_slots : t.slots ≤ 64
  pub some : 1 ≤ length t.classes
  pub few : length t.classes ≤ 4096
  pub object_name : (class_at t.classes (id_of 0)).name ≡ codes "Object"
  pub object_line : (class_at t.classes (id_of 0)).line ≡ 0
  pub different : AllPairs (λ c d. c.name ≢ d.name) t.classes
  pub each : (id : ClassId) → id.0 < length t.classes → IsClass t id

-- A field lies within the slots of its class: one of references in those below `refs`, upwards from its first;
-- any other in the last `plain`, downwards from its first.
pub record FitsIn (t : Schema) (class : ClassId) (field : Field) : Type 0 where
  pub target : IsTrue (has_target (length t.classes) field.kind)
  pub inside : is_ref field.kind ≡ true → field.first + field.count ≤ t.slots
  pub refs : is_ref field.kind ≡ true → field.first + field.count ≤ (kind_of t class).refs
  pub low : is_ref field.kind ≡ false → (t.slots - (kind_of t class).plain) + field.count ≤ field.first + 1
  pub high : is_ref field.kind ≡ false → field.first < t.slots
