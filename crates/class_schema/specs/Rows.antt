-- How a table is kept: each class with all its fields, and the names of fields by number.
use Rattle.std.specs.Prelude.{◌≡◌, ◌≢◌, ℕ, ◌+◌, ◌<◌, ◌≤◌, ◌==◌, Bool, true, List, [], ◌∷◌, length, map, drop, take, slice_get, slice_index_or, Option, Some, None, String, string_bytes, codes, IsTrue}
use Rattle.std.specs.List.{list_any, All, AllPairs, IsDistinct}
use Rattle.std.specs.String.{string_eq}
use Rattle.std.specs.Map.{keys_of}
use Rattle.std.specs.declared.alloc.Global.{Global}
use Rattle.world_model.specs.LaneSteps.{is_readiness}
use Rattle.class_schema.specs.declared.rows.FieldRow.{FieldRow}
use Rattle.class_schema.specs.declared.rows.ClassRow.{ClassRow}
use Rattle.class_schema.specs.Types.{ClassId}
use Rattle.class_schema.specs.Class.{Declaration, Class}
use Rattle.class_schema.specs.Layout.{Placed, layout, ref_slots, plain_slots}
use Rattle.class_schema.specs.Ancestry.{has_children, IsA}
use Rattle.class_schema.specs.Table.{id_of}
use Rattle.class_schema.specs.Lawful.{has_target}

-- the texts of names
abbrev pub texts : List (String Global) → List (List ℕ)
texts names = map string_bytes names

-- the field of a row, where these are the names
abbrev pub declaration_of : List (List ℕ) → FieldRow → Declaration
declaration_of names row = record { name = slice_index_or names row.name []; line = row.line; kind = row.field.kind; count = row.field.count }

-- the same with its first slot
abbrev pub placed_of : List (List ℕ) → FieldRow → Placed
placed_of names row = record { declared = declaration_of names row; first = row.field.first }

-- the class of an entry
abbrev pub class_of : List (List ℕ) → String Global × ClassRow → Class
class_of names entry =
    record {
      name = string_bytes entry.0;
      line = entry.1.line;
      parent = entry.1.parent;
      own = map (declaration_of names) (drop entry.1.inherited entry.1.fields);
      ready = entry.1.ready;
    }

-- the classes of some entries
abbrev pub classes_of : List (List ℕ) → List (String Global × ClassRow) → List Class
classes_of names entries = map (class_of names) entries

-- what is kept of the classes beside their names
abbrev pub rows_of : List (String Global × ClassRow) → List ClassRow
rows_of entries = map (λ entry. entry.1) entries

-- the parents of the classes
abbrev pub row_parents : List ClassRow → List (Option ClassId)
row_parents rows = map (λ row. row.parent) rows

-- some class adds a field whose name has this number
abbrev pub is_used : List ClassRow → ℕ → Bool
is_used rows number = list_any (λ row. list_any (λ field. field.name == number) (drop row.inherited row.fields)) rows

-- a field in a table of so many names and classes
pub record IsFieldRow (names classes : ℕ) (row : FieldRow) : Type 0 where
  pub named : row.name < names
  pub some : 1 ≤ row.field.count
  pub few : row.field.count ≤ 64
  pub target : IsTrue (has_target classes row.field.kind)

-- the totals of a class, and the slots of its fields, whatever their names
pub record AddsUp (slots : ℕ) (row : ClassRow) : Type 0 where
  pub refs : (names : List (List ℕ)) → row.refs ≡ ref_slots (map (declaration_of names) row.fields)
  pub plain : (names : List (List ℕ)) → row.plain ≡ plain_slots (map (declaration_of names) row.fields)
  pub fits : row.refs + row.plain ≤ slots
  pub placed : (names : List (List ℕ)) → layout slots [] (map (declaration_of names) row.fields) ≡ map (placed_of names) row.fields
  pub different : AllPairs (λ f g. f.name ≢ g.name) row.fields
  pub inherited : row.inherited ≤ length row.fields
  pub ready : IsTrue (is_readiness row.ready)

-- the first fields of a class are those of its parent, which stands before it
abbrev pub Inherits : List ClassRow → ℕ → ClassRow → Option ClassId → Type 0
Inherits rows id row None = (id ≡ 0) × (row.inherited ≡ 0)
Inherits rows id row (Some parent) = (parent.0 < id) × ((above : ClassRow) → slice_get rows parent.0 ≡ Some above → take row.inherited row.fields ≡ above.fields)

-- a class among the others
pub record IsRow (slots names : ℕ) (rows : List ClassRow) (id : ℕ) (row : ClassRow) : Type 0 where
  pub adds_up : AddsUp slots row
  pub each : All (IsFieldRow names (length rows)) row.fields
  pub inherits : Inherits rows id row row.parent
  pub jump : IsA (row_parents rows) (id_of id) row.jump
  pub lower : 0 < id → row.jump.0 < id
  pub depth : row.depth ≤ id

-- all classes
abbrev pub AreRows : ℕ → ℕ → List ClassRow → Type 0
AreRows slots names rows = (id : ℕ) (row : ClassRow) → slice_get rows id ≡ Some row → IsRow slots names rows id row

-- each class knows whether it has children
abbrev pub KnowChildren : List ClassRow → Type 0
KnowChildren rows = (id : ℕ) (row : ClassRow) → slice_get rows id ≡ Some row → row.has_child ≡ has_children (row_parents rows) (id_of id)

-- the first class is `Object`
abbrev pub BeginsWithObject : List (String Global × ClassRow) → Type 0
BeginsWithObject [] = ⊥
BeginsWithObject (entry ∷ entries) = (string_bytes entry.0 ≡ codes "Object") × (entry.1.line ≡ 0)

-- how a table is kept
pub record Keeps (slots : ℕ) (names : List (String Global)) (entries : List (String Global × ClassRow)) : Type 0 where
  pub some_slots : 1 ≤ slots
  pub few_slots : slots ≤ 64
  pub some : 1 ≤ length entries
  pub few : length entries ≤ 4096
  pub object : BeginsWithObject entries
  pub unique_classes : IsDistinct string_eq (keys_of entries)
  pub unique_names : IsDistinct string_eq names
  pub rows : AreRows slots (length names) (rows_of entries)
  pub children : KnowChildren (rows_of entries)
  pub used : (number : ℕ) → number < length names → is_used (rows_of entries) number ≡ true
