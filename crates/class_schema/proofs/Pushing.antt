-- A field or a class that is admitted comes.
use Rattle.std.proofs.Common.{◌≡◌, ℕ, ◌+◌, ◌<◌, ◌≤◌, refl, sym, ap, ◌∙◌, subst, inl, inr, arith, Bool, true, false, ◌⊎◌, List, [], ◌∷◌, ◌++◌, length, Option, Some, None, slice_get, slice_index_or, String, string_bytes, IsTrue}
use Rattle.std.specs.Prelude.{nat_lt, position, Result, Ok, Err, OnErr, if◌then◌else◌}
use Rattle.std.specs.List.{IsDistinct, list_any}
use Rattle.std.specs.String.{string_eq, string_eq_equiv}
use Rattle.std.specs.Map.{keys_of}
use Rattle.std.specs.declared.alloc.Global.{Global}
use Rattle.std.proofs.lemmas.Bool.{ltb-false, cases_lt}
use Rattle.std.proofs.lemmas.List.{length-map, length_push, map_push, get_or_append_left, get_or_push}
use Rattle.std.proofs.lemmas.Map.Keys.{IsDistinct-push}
use Rattle.std.proofs.lemmas.Option.{same_Some}
use Rattle.indexmap.specs.IndexMap.{set_value_at}
use Rattle.indexmap.specs.IndexSet.{insert_key}
use Rattle.class_schema.specs.declared.rows.ClassRow.{ClassRow}
use Rattle.class_schema.specs.Types.{ClassId, FieldKind}
use Rattle.class_schema.specs.Types.refusal
use Rattle.class_schema.specs.Class.{Declaration, Class, Schema}
use Rattle.class_schema.specs.Layout.{used_slots}
use Rattle.class_schema.specs.Ancestry.{parents, has_children, fields, IsA}
use Rattle.class_schema.specs.Table.{field_line, no_room, refused_unless, field_refusal, with_field, with_class, has_field}
use Rattle.class_schema.specs.Lawful.{has_target}
use Rattle.class_schema.specs.Row.{with_row}
use Rattle.class_schema.specs.Rows.{texts, class_of, classes_of, rows_of, row_parents, Keeps}
use Rattle.class_schema.proofs.Places.{at_push_left}
use Rattle.class_schema.proofs.Views.{Entries, parents_seen}
use Rattle.class_schema.proofs.Adding.{child_row}
use Rattle.class_schema.proofs.Labels.{is_text, name_at, no_key}
use Rattle.class_schema.proofs.Keeping.{keeps_field, sees_field, keeps_class, sees_class}
use Rattle.class_schema.proofs.Reading.{used_seen, fresh_seen, fresh_new, has_seen}

-- what holds after any call holds after an error
pub whenever : {T E P : Type 0} (r : Result T E) → P → OnErr r P
whenever (Ok x) p = tt
whenever (Err e) p = p

-- what it means that nothing refuses a field
pub record IsAdmitted (t : Schema) (class : ClassId) (name : List ℕ) (count : ℕ) : Type 0 where
  pub childless : has_children (parents t.classes) class ≡ false
  pub free : field_line t.classes class name ≡ None
  pub room : used_slots (fields t.classes class) + count ≤ t.slots

pub admits : (t : Schema) (class : ClassId) (name : List ℕ) (count : ℕ) → field_refusal t class name count ≡ None → IsAdmitted t class name count
admits t class name count e = go (has_children (parents t.classes) class) refl e
  where
    room : (b : Bool) → nat_lt t.slots (used_slots (fields t.classes class) + count) ≡ b
        → (if b then Some (refusal.TooManySlots (used_slots (fields t.classes class)) count) else None) ≡ None
        → used_slots (fields t.classes class) + count ≤ t.slots
    room true is s = absurd cc
    room false is s = ltb-false t.slots (used_slots (fields t.classes class) + count) is

    free : has_children (parents t.classes) class ≡ false → (o : Option ℕ) → field_line t.classes class name ≡ o
        → refused_unless o (no_room t.slots (used_slots (fields t.classes class)) count) ≡ None → IsAdmitted t class name count
    free none (Some line) is s = absurd cc
    free none None is s = record { childless = none; free = is; room = room (nat_lt t.slots (used_slots (fields t.classes class) + count)) refl s }

    go : (b : Bool) → has_children (parents t.classes) class ≡ b
        → (if b then Some refusal.HasChildren else refused_unless (field_line t.classes class name)
        (no_room t.slots (used_slots (fields t.classes class)) count)) ≡ None → IsAdmitted t class name count
    go true is s = absurd cc
    go false is s = free is (field_line t.classes class name) refl s

module _ (slots : ℕ) (keys : List (String Global)) (es : Entries) (k : Keeps slots keys es) (id : ClassId) (row : ClassRow)
    (at : slice_get (rows_of es) id.0 ≡ Some row) (text : List ℕ) (line : ℕ) (kind : FieldKind) (count : ℕ)
    (ok : IsAdmitted (record { slots = slots; classes = classes_of (texts keys) es }) id text count) where
  abbrev table : Schema
  table = record { slots = slots; classes = classes_of (texts keys) es }

  abbrev declared : Declaration
  declared = record { name = text; line = line; kind = kind; count = count }

  pub has_room : (row.refs + row.plain) + count ≤ slots
  has_room = let used = used_seen slots keys es k id row at in let room = ok.room in omega arith

  childless : has_children (row_parents (rows_of es)) id ≡ false
  childless = ap (λ ps. has_children ps id) (sym (parents_seen (texts keys) es)) ∙ ok.childless

  target_is : IsTrue (has_target (length (classes_of (texts keys) es)) kind) → IsTrue (has_target (length es) kind)
  target_is t = subst (λ (n : ℕ). IsTrue (has_target n kind)) (length-map es (class_of (texts keys))) t

  module _ (some : 1 ≤ count) (few : count ≤ 64) (target : IsTrue (has_target (length (classes_of (texts keys) es)) kind)) where
    -- a field whose name is there
    pub keeps_known : (n : ℕ) → position (is_text keys text) keys ≡ Some n → Keeps slots keys (set_value_at es id.0 (with_row row slots n line kind count))
    keeps_known n e =
        keeps_field slots keys keys es id row at n line kind count k (omega arith) (name_at keys text n e).0 some few (target_is target) has_room
        (fresh_seen slots keys es k id row at text n e ok.free) childless k.unique_names (λ m lt. inl lt)

    -- a field whose name is new
    pub keeps_new : (key : String Global) → list_any (string_eq key) keys ≡ false → Keeps slots (keys ++ key ∷ []) (set_value_at es id.0 (with_row row slots (length keys) line kind count))
    keeps_new key new =
        let len = length_push keys key in
        keeps_field slots keys (keys ++ key ∷ []) es id row at (length keys) line kind count k (omega arith) (omega arith) some few (target_is target)
        has_room (fresh_new slots keys es k id row at) childless (IsDistinct-push string_eq_equiv keys key k.unique_names new)
        (λ m lt. last m (cases_lt m (length keys)) lt)
      where
        last : (m : ℕ) → (m < length keys) ⊎ (length keys ≤ m) → m < length (keys ++ key ∷ []) → (m < length keys) ⊎ (m ≡ length keys)
        last m (inl less) lt = inl less
        last m (inr more) lt = let len = length_push keys key in inr (omega arith)

  pub sees_known : (n : ℕ) → position (is_text keys text) keys ≡ Some n
      → ◌≡◌ {A = Schema} (record { slots = slots; classes = classes_of (texts keys) (set_value_at es id.0 (with_row row slots n line kind count)) })
      (with_field table id declared)
  sees_known n e =
      let put : List Class → Schema = λ cs. record { slots = slots; classes = cs } in
      ap put (sees_field slots keys keys es id row at n line kind count k text (λ j lt. refl) (name_at keys text n e).1)

  pub sees_new : (key : String Global) → string_bytes key ≡ text
      → ◌≡◌ {A = Schema}
      (record {
        slots = slots;
        classes = classes_of (texts (keys ++ key ∷ [])) (set_value_at es id.0 (with_row row slots (length keys) line kind count));
      })
      (with_field table id declared)
  sees_new key is_name =
      let put : List Class → Schema = λ cs. record { slots = slots; classes = cs } in
      let more : texts (keys ++ key ∷ []) ≡ texts keys ++ string_bytes key ∷ [] = map_push string_bytes keys key in
      let len = length-map keys (λ (s : String Global). string_bytes s) in
      ap put (sees_field slots keys (keys ++ key ∷ []) es id row at (length keys) line kind count k text
      (λ j lt. ap (λ ts. slice_index_or ts j []) more ∙ get_or_append_left (texts keys) (string_bytes key ∷ []) [] j (omega arith))
      (ap (λ ts. slice_index_or ts (length keys) []) more ∙ get_or_push (texts keys) (string_bytes key) [] (length keys) len ∙ is_name))

-- a name that no class has is no key
pub new_key : (slots : ℕ) (keys : List (String Global)) (es : Entries) → Keeps slots keys es → (key : String Global) (name : List ℕ)
    → string_bytes key ≡ name → has_field (classes_of (texts keys) es) name ≡ false → list_any (string_eq key) keys ≡ false
new_key slots keys es k key name is_name none = ap (λ n. list_any (is_text keys n) keys) is_name ∙ has_seen slots keys es k name ∙ none

-- a name that has no number is of no field
pub not_there : (slots : ℕ) (keys : List (String Global)) (es : Entries) → Keeps slots keys es → (name : List ℕ)
    → position (is_text keys name) keys ≡ None → has_field (classes_of (texts keys) es) name ≡ false
not_there slots keys es k name none = sym (has_seen slots keys es k name) ∙ no_key keys name none

-- a new key goes last
pub pushed_key : (keys : List (String Global)) (key : String Global) → list_any (string_eq key) keys ≡ false → insert_key string_eq keys key ≡ keys ++ key ∷ []
pushed_key keys key none = ap (λ (b : Bool). if b then keys else keys ++ key ∷ []) none

-- ---- a class

module _ (slots : ℕ) (keys : List (String Global)) (es all : Entries) (k : Keeps slots keys es) (parent : ClassId) (above im : ClassRow)
    (at : slice_get (rows_of es) parent.0 ≡ Some above) (key : String Global) (line : ℕ) (jump : ClassId)
    (pushed : all ≡ es ++ (key, child_row above line parent jump) ∷ []) (there : slice_get (rows_of all) parent.0 ≡ Some im) where
  same : im ≡ above
  same =
      let born = child_row above line parent jump in
      let rows : rows_of all ≡ rows_of es ++ born ∷ [] = ap rows_of pushed ∙ map_push (λ (e : String Global × ClassRow). e.1) es (key, born) in
      same_Some im above (sym there ∙ ap (λ rs. slice_get rs parent.0) rows ∙ at_push_left (rows_of es) parent.0 born above at)

  written : set_value_at all parent.0 (record im { has_child = true }) ≡ set_value_at (es ++ (key, child_row above line parent jump) ∷ []) parent.0 (record above { has_child = true })
  written =
      let mark : ClassRow → ClassRow = λ r. record r { has_child = true } in
      λ t. set_value_at (pushed t) parent.0 (mark (same t))

  pub keeps_child : IsA (parents (classes_of (texts keys) es)) parent jump → length (classes_of (texts keys) es) < 4096
      → IsDistinct string_eq (keys_of all) → Keeps slots keys (set_value_at all parent.0 (record im { has_child = true }))
  keeps_child up room unique =
      subst (Keeps slots keys) (sym written)
      (keeps_class slots keys es parent above at key line jump k (subst (λ ps. IsA ps parent jump) (parents_seen (texts keys) es) up)
      (let len = length-map es (class_of (texts keys)) in omega arith) (subst (λ es. IsDistinct string_eq (keys_of es)) pushed unique))

  pub sees_child : (name : List ℕ) → string_bytes key ≡ name
      → ◌≡◌ {A = Schema} (record { slots = slots; classes = classes_of (texts keys) (set_value_at all parent.0 (record im { has_child = true })) })
      (with_class (record { slots = slots; classes = classes_of (texts keys) es }) line name parent)
  sees_child name is_name =
      let put : List Class → Schema = λ cs. record { slots = slots; classes = cs } in
      ap put (ap (classes_of (texts keys)) written ∙ sees_class slots keys es parent above at key line jump (texts keys) name is_name)
