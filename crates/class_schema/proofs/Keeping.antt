-- Each call keeps what is kept, and makes of the classes what it says.
use Rattle.std.proofs.Common.{◌≡◌, ◌≢◌, ℕ, zero, suc, ◌+◌, ◌<◌, ◌≤◌, refl, sym, ap, ◌∙◌, subst, inl, inr, arith, Bool, true, false, ◌⊎◌, List, [], ◌∷◌, ◌++◌, length, map, set, drop, Some, None, option_map, slice_get, slice_index_or, String, string_bytes, IsTrue}
use Rattle.std.specs.Prelude.{Result, Ok, if◌then◌else◌}
use Rattle.std.specs.List.{All, IsDistinct}
use Rattle.std.specs.String.{string_eq}
use Rattle.std.specs.Map.{keys_of}
use Rattle.std.specs.declared.alloc.Global.{Global}
use Rattle.std.proofs.lemmas.List.{length_push, map-append, map_push, append-nil, take-append-le, drop-append-le, drop_all}
use Rattle.std.proofs.lemmas.List.Elements.{All-weaker, All-head, All-tail, All-push, All-drop}
use Rattle.std.proofs.lemmas.Option.{slice_get-map, same_Some}
use Rattle.indexmap.specs.IndexMap.{set_value_at}
use Rattle.world_model.specs.LaneSteps.{is_readiness}
use Rattle.class_schema.specs.declared.rows.FieldRow.{FieldRow}
use Rattle.class_schema.specs.declared.rows.ClassRow.{ClassRow}
use Rattle.class_schema.specs.Types.{ClassId, FieldKind, Ready, SchemaErr}
use Rattle.class_schema.specs.Types.refusal
use Rattle.class_schema.specs.Class.{Declaration, Class, Schema}
use Rattle.class_schema.specs.Ancestry.{class_at, parents, has_children, IsA}
use Rattle.class_schema.specs.Table.{with_own, child, unless_refused, with_ready, ready_set}
use Rattle.class_schema.specs.Lawful.{has_target}
use Rattle.class_schema.specs.Row.{next_row, with_row}
use Rattle.class_schema.specs.Rows.{texts, declaration_of, class_of, classes_of, rows_of, row_parents, is_used, IsFieldRow, AreRows, KnowChildren, BeginsWithObject, Keeps}
use Rattle.class_schema.proofs.Places.{at_push_left, keys_set, values_set, length_set, map_entry_set, map_entry_same}
use Rattle.class_schema.proofs.Views.{Entries, class_seen, length_rows}
use Rattle.class_schema.proofs.Adding.{adds_up_push, set_are, set_know, child_row, push_are, push_know, used_set, used_here, used_push}

-- ---- the first class

starts_set : (es : Entries) (i : ℕ) (row new : ClassRow) → slice_get (rows_of es) i ≡ Some row → new.line ≡ row.line → BeginsWithObject es → BeginsWithObject (set_value_at es i new)
starts_set [] i row new at e h = h
starts_set (p ∷ es) zero row new at e h = (h.0, e ∙ ap (λ (r : ClassRow). r.line) (sym (same_Some p.1 row at)) ∙ h.1)
starts_set (p ∷ es) (suc i) row new at e h = h

starts_push : (es : Entries) (p : String Global × ClassRow) → BeginsWithObject es → BeginsWithObject (es ++ p ∷ [])
starts_push [] p h = absurd h
starts_push (q ∷ es) p h = h

-- ---- a readiness

pub keeps_ready : (slots : ℕ) (keys : List (String Global)) (es : Entries) (i : ℕ) (row : ClassRow) (ready : Ready)
    → slice_get (rows_of es) i ≡ Some row → IsTrue (is_readiness ready) → Keeps slots keys es
    → Keeps slots keys (set_value_at es i (record row { ready = ready }))
keeps_ready slots keys es i row ready at is_ready k =
    let new : ClassRow = record row { ready = ready } in
    let here = k.rows i row at in
    let a = here.adds_up in
    let len = length_set es i new in
    let some = k.some in
    let few = k.few in
    let rows = values_set es i new in
    record {
      some_slots = k.some_slots;
      few_slots = k.few_slots;
      some = omega arith;
      few = omega arith;
      object = starts_set es i row new at refl k.object;
      unique_classes = subst (IsDistinct string_eq) (sym (keys_set es i new)) k.unique_classes;
      unique_names = k.unique_names;
      rows = subst (AreRows slots (length keys)) (sym rows)
          (set_are slots (length keys) (length keys) (rows_of es) i row new at (omega arith) k.rows
          (record { parent = refl; jump = refl; depth = refl; inherited = refl; front = refl })
          (record { refs = a.refs; plain = a.plain; fits = a.fits; placed = a.placed; different = a.different; inherited = a.inherited; ready = is_ready })
          here.each (λ _. refl));
      children = subst KnowChildren (sym rows) (set_know (rows_of es) i row new at refl refl k.children);
      used = λ n lt. subst (λ rs. is_used rs n ≡ true) (sym rows) (used_set (rows_of es) i row new at refl a.inherited [] (sym (append-nil row.fields)) n (k.used n lt));
    }

pub sees_ready : (names : List (List ℕ)) (es : Entries) (id : ClassId) (row : ClassRow) (ready : Ready) → slice_get (rows_of es) id.0 ≡ Some row
    → classes_of names (set_value_at es id.0 (record row { ready = ready })) ≡ set (classes_of names es) id.0 (record (class_at (classes_of names es) id) { ready = ready })
sees_ready names es id row ready at =
    let e = class_seen names es id row at in
    let put : Class → List Class = λ c. set (classes_of names es) id.0 (record c { ready = ready }) in
    map_entry_set (class_of names) es id.0 e.0 row (record row { ready = ready }) e.1 ∙ ap put (sym e.2)

pub ready_done : (slots : ℕ) (keys : List (String Global)) (es : Entries) (id : ClassId) (row : ClassRow) (ready : Ready)
    → slice_get (rows_of es) id.0 ≡ Some row → has_children (parents (classes_of (texts keys) es)) id ≡ false
    → ready_set (record { slots = slots; classes = classes_of (texts keys) es }) id ready
    ≡ Ok (record { slots = slots; classes = classes_of (texts keys) (set_value_at es id.0 (record row { ready = ready })) })
ready_done slots keys es id row ready at none =
    let old : Schema = record { slots = slots; classes = classes_of (texts keys) es } in
    let table : List Class → Result Schema SchemaErr = λ cs. Ok (record { slots = slots; classes = cs }) in
    ap (λ (b : Bool). unless_refused (with_ready old id ready) (if b then Some refusal.HasChildren else None)) none
    ∙ ap table (sym (sees_ready (texts keys) es id row ready at))

-- ---- a field

module _ (slots : ℕ) (keys more : List (String Global)) (es : Entries) (id : ClassId) (row : ClassRow) (at : slice_get (rows_of es) id.0 ≡ Some row)
    (name line : ℕ) (kind : FieldKind) (count : ℕ) (k : Keeps slots keys es) where
  abbrev new : ClassRow
  new = with_row row slots name line kind count

  abbrev field : FieldRow
  field = next_row row slots name line kind count

  module _ (le : length keys ≤ length more) (named : name < length more) (some : 1 ≤ count) (few : count ≤ 64)
      (target : IsTrue (has_target (length es) kind)) (room : (row.refs + row.plain) + count ≤ slots)
      (fresh : All (λ f. f.name ≢ name) row.fields) (childless : has_children (row_parents (rows_of es)) id ≡ false) (unique : IsDistinct string_eq more)
      (used : (n : ℕ) → n < length more → (n < length keys) ⊎ (n ≡ name)) where
    pub keeps_field : Keeps slots more (set_value_at es id.0 new)
    keeps_field =
        let here = k.rows id.0 row at in
        let a = here.adds_up in
        let len = length_set es id.0 new in
        let any = k.some in
        let most = k.few in
        let rows = values_set es id.0 new in
        let wide : All (IsFieldRow (length more) (length (rows_of es))) row.fields =
        All-weaker (IsFieldRow (length keys) (length (rows_of es))) (IsFieldRow (length more) (length (rows_of es))) wider row.fields here.each in
        record {
          some_slots = k.some_slots;
          few_slots = k.few_slots;
          some = omega arith;
          few = omega arith;
          object = starts_set es id.0 row new at refl k.object;
          unique_classes = subst (IsDistinct string_eq) (sym (keys_set es id.0 new)) k.unique_classes;
          unique_names = unique;
          rows = subst (AreRows slots (length more)) (sym rows)
              (set_are slots (length keys) (length more) (rows_of es) id.0 row new at le k.rows
              (record { parent = refl; jump = refl; depth = refl; inherited = refl; front = take-append-le row.inherited row.fields (field ∷ []) a.inherited })
              (adds_up_push slots row name line kind count a room fresh)
              (All-push (IsFieldRow (length more) (length (rows_of es))) row.fields field wide
              (record
              { named = named; some = some; few = few; target = subst (λ (n : ℕ). IsTrue (has_target n kind)) (sym (length_rows es)) target }))
              (λ h. absurd (let c = childless in cc)));
          children = subst KnowChildren (sym rows) (set_know (rows_of es) id.0 row new at refl refl k.children);
          used = λ n lt. subst (λ rs. is_used rs n ≡ true) (sym rows) (uses n (used n lt));
        }
      where
        wider : (f : FieldRow) → IsFieldRow (length keys) (length (rows_of es)) f → IsFieldRow (length more) (length (rows_of es)) f
        wider f i = let n = i.named in record { named = omega arith; some = i.some; few = i.few; target = i.target }

        uses : (n : ℕ) → (n < length keys) ⊎ (n ≡ name) → is_used (set (rows_of es) id.0 new) n ≡ true
        uses n (inl lt) = used_set (rows_of es) id.0 row new at refl (k.rows id.0 row at).adds_up.inherited (field ∷ []) refl n (k.used n lt)
        uses n (inr e) = subst (λ (m : ℕ). is_used (set (rows_of es) id.0 new) m ≡ true) (sym e) (used_here (rows_of es) id.0 row new at refl (k.rows id.0 row at).adds_up.inherited field refl)

  module _ (text : List ℕ) (agree : (j : ℕ) → j < length keys → slice_index_or (texts more) j [] ≡ slice_index_or (texts keys) j []) (here : slice_index_or (texts more) name [] ≡ text) where
    -- the fields that were there keep their names
    same_declarations : (fs : List FieldRow) → All (λ f. f.name < length keys) fs → map (declaration_of (texts more)) fs ≡ map (declaration_of (texts keys)) fs
    same_declarations [] h = refl
    same_declarations (f ∷ fs) h =
        let name_of : List ℕ → Declaration = λ n. record { name = n; line = f.line; kind = f.field.kind; count = f.field.count } in
        λ t. name_of (agree f.name (All-head (λ g. g.name < length keys) f fs h) t) ∷ same_declarations fs (All-tail (λ g. g.name < length keys) f fs h) t

    same_classes : (es : Entries) → ((j : ℕ) (e : String Global × ClassRow) → slice_get es j ≡ Some e → All (λ f. f.name < length keys) e.1.fields)
        → classes_of (texts more) es ≡ classes_of (texts keys) es
    same_classes [] h = refl
    same_classes (e ∷ es) h =
        let own_of : List Declaration → Class = λ fs. record { name = string_bytes e.0; line = e.1.line; parent = e.1.parent; own = fs; ready = e.1.ready } in
        λ t. own_of (same_declarations (drop e.1.inherited e.1.fields) (All-drop (λ f. f.name < length keys) e.1.inherited e.1.fields (h zero e refl)) t) ∷ same_classes es (λ j. h (suc j)) t

    named : (j : ℕ) (e : String Global × ClassRow) → slice_get es j ≡ Some e → All (λ f. f.name < length keys) e.1.fields
    named j e got =
        All-weaker (IsFieldRow (length keys) (length (rows_of es))) (λ f. f.name < length keys) (λ f i. i.named) e.1.fields
        (k.rows j e.1
        (slice_get-map (λ (p : String Global × ClassRow). p.1) es j ∙ ap (option_map (λ (p : String Global × ClassRow). p.1)) got)).each

    pub sees_field : classes_of (texts more) (set_value_at es id.0 new)
        ≡ set (classes_of (texts keys) es) id.0
        (with_own (class_at (classes_of (texts keys) es) id) (record { name = text; line = line; kind = kind; count = count }))
    sees_field =
        let e = class_seen (texts keys) es id row at in
        let a = (k.rows id.0 row at).adds_up in
        let own : map (declaration_of (texts more)) (drop row.inherited (row.fields ++ field ∷ []))
        ≡ map (declaration_of (texts keys)) (drop row.inherited row.fields) ++ record { name = text; line = line; kind = kind; count = count }
        ∷ []
        = ap (map (declaration_of (texts more))) (drop-append-le row.inherited row.fields (field ∷ []) a.inherited)
        ∙ map-append (declaration_of (texts more)) (drop row.inherited row.fields) (field ∷ [])
        ∙ (λ t.
        same_declarations (drop row.inherited row.fields)
        (All-drop (λ f. f.name < length keys) row.inherited row.fields (named id.0 (e.0, row) e.1)) t
        ++ record { name = here t; line = line; kind = kind; count = count } ∷ []) in
        let own_of : List Declaration → Class = λ fs. record { name = string_bytes e.0; line = row.line; parent = row.parent; own = fs; ready = row.ready } in
        map_entry_set (class_of (texts more)) es id.0 e.0 row new e.1
        ∙ (λ t. set (same_classes es named t) id.0 (own_of (own t)))
        ∙ ap (λ (c : Class). set (classes_of (texts keys) es) id.0 (with_own c (record { name = text; line = line; kind = kind; count = count }))) (sym e.2)

-- ---- a class

module _ (slots : ℕ) (keys : List (String Global)) (es : Entries) (parent : ClassId) (above : ClassRow)
    (at : slice_get (rows_of es) parent.0 ≡ Some above) (key : String Global) (line : ℕ) (jump : ClassId) where
  abbrev born : ClassRow
  born = child_row above line parent jump

  abbrev marked : ClassRow
  marked = record above { has_child = true }

  abbrev all : Entries
  all = es ++ (key, born) ∷ []

  rows_all : rows_of all ≡ rows_of es ++ born ∷ []
  rows_all = map_push (λ (e : String Global × ClassRow). e.1) es (key, born)

  pub keeps_class : Keeps slots keys es → IsA (row_parents (rows_of es)) parent jump → length es < 4096 → IsDistinct string_eq (keys_of all) → Keeps slots keys (set_value_at all parent.0 marked)
  keeps_class k up room unique =
      let here = k.rows parent.0 above at in
      let a = here.adds_up in
      let there = at_push_left (rows_of es) parent.0 born above at in
      let pushed = push_are slots (length keys) (rows_of es) k.rows parent above at line jump up in
      let len = length_set all parent.0 marked in
      let longer = length_push es (key, born) in
      let some = k.some in
      let rows : rows_of (set_value_at all parent.0 marked) ≡ set (rows_of es ++ born ∷ []) parent.0 marked = values_set all parent.0 marked ∙ ap (λ rs. set rs parent.0 marked) rows_all in
      record {
        some_slots = k.some_slots;
        few_slots = k.few_slots;
        some = omega arith;
        few = omega arith;
        object = starts_set all parent.0 above marked (ap (λ rs. slice_get rs parent.0) rows_all ∙ there) refl (starts_push es (key, born) k.object);
        unique_classes = subst (IsDistinct string_eq) (sym (keys_set all parent.0 marked)) unique;
        unique_names = k.unique_names;
        rows = subst (AreRows slots (length keys)) (sym rows)
            (set_are slots (length keys) (length keys) (rows_of es ++ born ∷ []) parent.0 above marked there (omega arith) pushed
            (record { parent = refl; jump = refl; depth = refl; inherited = refl; front = refl })
            (record { refs = a.refs; plain = a.plain; fits = a.fits; placed = a.placed; different = a.different; inherited = a.inherited; ready = a.ready })
            (pushed parent.0 above there).each (λ _. refl));
        children = subst KnowChildren (sym rows) (push_know slots (length keys) (rows_of es) k.rows parent above at line jump up k.children);
        used =
            λ n lt.
            subst (λ rs. is_used rs n ≡ true) (sym rows)
            (used_set (rows_of es ++ born ∷ []) parent.0 above marked there refl a.inherited [] (sym (append-nil above.fields)) n
            (used_push (rows_of es) born n (k.used n lt)));
      }

  pub sees_class : (names : List (List ℕ)) (name : List ℕ) → string_bytes key ≡ name
      → classes_of names (set_value_at all parent.0 marked) ≡ classes_of names es ++ child (classes_of names es) line name parent ∷ []
  sees_class names name is_name =
      let e = class_seen names es parent above at in
      let born_as : List ℕ → List Declaration → Ready → List Class = λ n fs r. classes_of names es ++ record { name = n; line = line; parent = Some parent; own = fs; ready = r } ∷ [] in
      map_entry_same (class_of names) all parent.0 e.0 above marked (at_push_left es parent.0 (key, born) (e.0, above) e.1) refl
      ∙ map_push (class_of names) es (key, born)
      ∙ (λ t. born_as (is_name t) (map (declaration_of names) (drop_all (length above.fields) above.fields (omega arith) t)) (class_at_ready t))
    where
      class_at_ready : above.ready ≡ (class_at (classes_of names es) parent).ready
      class_at_ready = sym (ap (λ (c : Class). c.ready) (class_seen names es parent above at).2)
