-- What is kept stays true as fields and classes come.
use Rattle.std.proofs.Common.{◌≡◌, ◌≢◌, ℕ, ◌+◌, ◌-◌, ◌<◌, ◌≤◌, ◌==◌, refl, sym, ap, ◌∙◌, subst, inl, inr, arith, zero-add, Bool, true, false, ◌||◌, if◌then◌else◌, ◌⊎◌, List, [], ◌∷◌, ◌++◌, length, map, set, take, drop, Option, Some, None, option_map, slice_get, IsTrue}
use Rattle.std.specs.List.{list_any, All, Any}
use Rattle.std.proofs.lemmas.Bool.{or_left, or_right, eq-eqb, eqb-true, ne_eqb, lt-ltb, ltb-true, false_from_ne_true}
use Rattle.std.proofs.lemmas.List.{length-map, length-set, length_push, map-append, map_push, append-nil, append_assoc, take_all, drop-append-le, get_or_default}
use Rattle.std.proofs.lemmas.List.Elements.{All-weaker}
use Rattle.std.proofs.lemmas.List.Folds.{list_any-append, Any-from_list_any}
use Rattle.std.proofs.lemmas.List.Quantifiers.{all_pairs_push}
use Rattle.std.proofs.lemmas.List.Sums.{sum_by-append}
use Rattle.std.proofs.lemmas.Map.Keys.{any_passes_from_place}
use Rattle.std.proofs.lemmas.Option.{slice_get-map, slice_get_within, same_Some}
use Rattle.class_schema.specs.declared.rows.FieldRow.{FieldRow}
use Rattle.class_schema.specs.declared.rows.ClassRow.{ClassRow}
use Rattle.class_schema.specs.Types.{ClassId, FieldKind}
use Rattle.class_schema.specs.Types.kind
use Rattle.class_schema.specs.Class.{Declaration}
use Rattle.class_schema.specs.Layout.{Placed, layout, first_slot, is_ref, ref_count, plain_count, ref_slots, plain_slots}
use Rattle.class_schema.specs.Ancestry.{parent_of, has_children, is_id, IsA}
use Rattle.class_schema.specs.Table.{id_of}
use Rattle.class_schema.specs.Lawful.{has_target}
use Rattle.class_schema.specs.Row.{next_row, with_row}
use Rattle.class_schema.specs.Rows.{declaration_of, placed_of, row_parents, is_used, IsFieldRow, AddsUp, Inherits, IsRow, AreRows, KnowChildren}
use Rattle.class_schema.proofs.Places.{at_set, set_other, set_cases, push_cases, at_push_left, at_push, any_set, map_set_same}
use Rattle.class_schema.proofs.Ancestors.{isa_up, isa_low, isa_push}
use Rattle.class_schema.proofs.Views.{parent_seen, rows_fall}

or_false : (b : Bool) → (b || false) ≡ b
or_false true = refl
or_false false = refl

-- ---- the fields of a class

-- one more field
pub layout_push : (slots : ℕ) (before fs : List Declaration) (f : Declaration)
    → layout slots before (fs ++ f ∷ []) ≡ layout slots before fs ++ record { declared = f; first = first_slot slots (before ++ fs) f.kind } ∷ []
layout_push slots before [] f =
    let place : List Declaration → List Placed = λ bs. record { declared = f; first = first_slot slots bs f.kind } ∷ [] in
    ap place (sym (append-nil before))
layout_push slots before (g ∷ fs) f =
    let place : List Declaration → List Placed = λ bs. layout slots (before ++ g ∷ []) fs ++ record { declared = f; first = first_slot slots bs f.kind } ∷ [] in
    let here : Placed = record { declared = g; first = first_slot slots before g.kind } in
    ap (λ ps. here ∷ ps) (layout_push slots (before ++ g ∷ []) fs f ∙ ap place (append_assoc before (g ∷ []) fs))

both_fit : (b : Bool) (refs plain count slots : ℕ) → (refs + plain) + count ≤ slots → (refs + (if b then count else 0)) + (plain + (if b then 0 else count)) ≤ slots
both_fit true refs plain count slots le = omega arith
both_fit false refs plain count slots le = omega arith

module _ (slots : ℕ) (row : ClassRow) (name line : ℕ) (kind : FieldKind) (count : ℕ) where
  abbrev next : FieldRow
  next = next_row row slots name line kind count

  pub adds_up_push : AddsUp slots row → (row.refs + row.plain) + count ≤ slots → All (λ f. f.name ≢ name) row.fields → AddsUp slots (with_row row slots name line kind count)
  adds_up_push h room fresh =
      record {
        refs =
            λ names.
            (λ t. h.refs names t + sym (zero-add (ref_count (declaration_of names next))) t)
            ∙ sym (sum_by-append ref_count (map (declaration_of names) row.fields) (declaration_of names next ∷ []))
            ∙ ap ref_slots (sym (map-append (declaration_of names) row.fields (next ∷ [])));
        plain =
            λ names.
            (λ t. h.plain names t + sym (zero-add (plain_count (declaration_of names next))) t)
            ∙ sym (sum_by-append plain_count (map (declaration_of names) row.fields) (declaration_of names next ∷ []))
            ∙ ap plain_slots (sym (map-append (declaration_of names) row.fields (next ∷ [])));
        fits = both_fit (is_ref kind) row.refs row.plain count slots room;
        placed = λ names. ap (layout slots []) (map-append (declaration_of names) row.fields (next ∷ []))
            ∙ layout_push slots [] (map (declaration_of names) row.fields) (declaration_of names next)
            ∙ (λ t. h.placed names t ++ record { declared = declaration_of names next; first = if is_ref kind then sym (h.refs names) t else (slots - 1) - sym (h.plain names) t } ∷ [])
            ∙ sym (map-append (placed_of names) row.fields (next ∷ []));
        different = all_pairs_push (λ (f g : FieldRow). f.name ≢ g.name) row.fields next h.different fresh;
        inherited = let l = length_push row.fields next in let i = h.inherited in omega arith;
        ready = h.ready;
      }

-- ---- a class is written

-- a class stands among the others as another does
pub record StandsAs (row new : ClassRow) : Type 0 where
  pub parent : new.parent ≡ row.parent
  pub jump : new.jump ≡ row.jump
  pub depth : new.depth ≡ row.depth
  pub inherited : new.inherited ≡ row.inherited
  pub front : take row.inherited new.fields ≡ take row.inherited row.fields

each_wider : (names more classes all : ℕ) → names ≤ more → ((k : FieldKind) → IsTrue (has_target classes k) → IsTrue (has_target all k))
    → (fs : List FieldRow) → All (IsFieldRow names classes) fs → All (IsFieldRow more all) fs
each_wider names more classes all le wider fs h = All-weaker (IsFieldRow names classes) (IsFieldRow more all) step fs h
  where
    step : (f : FieldRow) → IsFieldRow names classes f → IsFieldRow more all f
    step f i = record { named = let n = i.named in omega arith; some = i.some; few = i.few; target = wider f.field.kind i.target }

-- the parent of a class has children
pub is_parent : (rows : List ClassRow) (id : ℕ) (row : ClassRow) (parent : ClassId) → slice_get rows id ≡ Some row → row.parent ≡ Some parent → has_children (row_parents rows) parent ≡ true
is_parent rows id row parent at e =
    let here : slice_get (row_parents rows) id ≡ Some row.parent = slice_get-map (λ (r : ClassRow). r.parent) rows id ∙ ap (option_map (λ (r : ClassRow). r.parent)) at in
    any_passes_from_place (is_id parent) (row_parents rows) id row.parent here (subst (λ (o : Option ClassId). is_id parent o ≡ true) (sym e) (eq-eqb parent.0 parent.0 refl))

module _ (slots names more : ℕ) (rows : List ClassRow) (i : ℕ) (row new : ClassRow) (at : slice_get rows i ≡ Some row) (le : names ≤ more) (are : AreRows slots names rows)
    (as' : StandsAs row new) (alone : AddsUp slots new) (each : All (IsFieldRow more (length rows)) new.fields)
    (kept : has_children (row_parents rows) (id_of i) ≡ true → new.fields ≡ row.fields) where
  pub parents_set : row_parents (set rows i new) ≡ row_parents rows
  parents_set = map_set_same (λ (r : ClassRow). r.parent) rows i row new at as'.parent

  mine : IsRow slots more (set rows i new) i new
  mine =
      let h = are i row at in
      record {
        adds_up = alone;
        each = subst (λ (n : ℕ). All (IsFieldRow more n) new.fields) (sym (length-set rows i new)) each;
        inherits = subst (Inherits (set rows i new) i new) (sym as'.parent) (inherit row.parent h.inherits);
        jump = subst (λ ps. IsA ps (id_of i) new.jump) (sym parents_set) (subst (λ (j : ClassId). IsA (row_parents rows) (id_of i) j) (sym as'.jump) h.jump);
        lower = λ lt. subst (λ (j : ClassId). j.0 < i) (sym as'.jump) (h.lower lt);
        depth = subst (λ (d : ℕ). d ≤ i) (sym as'.depth) h.depth;
      }
    where
      inherit : (o : Option ClassId) → Inherits rows i row o → Inherits (set rows i new) i new o
      inherit None h = (h.0, as'.inherited ∙ h.1)
      inherit (Some p) h =
          let less = h.0 in
          (h.0, λ above got. ap (λ k. take k new.fields) as'.inherited ∙ as'.front ∙ h.1 above (sym (set_other rows i p.0 new (λ e. absurd (omega arith))) ∙ got))

  other : (id : ℕ) (r : ClassRow) → slice_get rows id ≡ Some r → IsRow slots more (set rows i new) id r
  other id r here =
      let h = are id r here in
      record {
        adds_up = h.adds_up;
        each = subst (λ (n : ℕ). All (IsFieldRow more n) r.fields) (sym (length-set rows i new)) (each_wider names more (length rows) (length rows) le (λ k t. t) r.fields h.each);
        inherits = inherit r.parent refl h.inherits;
        jump = subst (λ ps. IsA ps (id_of id) r.jump) (sym parents_set) h.jump;
        lower = h.lower;
        depth = h.depth;
      }
    where
      inherit : (o : Option ClassId) → r.parent ≡ o → Inherits rows id r o → Inherits (set rows i new) id r o
      inherit None e h = h
      inherit (Some p) e h = (h.0, λ above got. by above (set_cases rows i p.0 new above got))
        where
          by : (above : ClassRow) → ((p.0 ≡ i) × (above ≡ new)) ⊎ ((i ≡ p.0 → ⊥) × (slice_get rows p.0 ≡ Some above)) → take r.inherited r.fields ≡ above.fields
          by above (inl s) =
              let there : slice_get rows p.0 ≡ Some row = ap (slice_get rows) s.0 ∙ at in
              let child : has_children (row_parents rows) (id_of i) ≡ true = ap (λ n. has_children (row_parents rows) (id_of n)) (sym s.0) ∙ is_parent rows id r p here e in
              h.1 row there ∙ sym (kept child) ∙ ap (λ (a : ClassRow). a.fields) (sym s.1)
          by above (inr s) = h.1 above s.1

  pub set_are : AreRows slots more (set rows i new)
  set_are id r got = by (set_cases rows i id new r got)
    where
      by : ((id ≡ i) × (r ≡ new)) ⊎ ((i ≡ id → ⊥) × (slice_get rows id ≡ Some r)) → IsRow slots more (set rows i new) id r
      by (inl e) = subst (λ (k : ℕ). IsRow slots more (set rows i new) k r) (sym e.0) (subst (λ (x : ClassRow). IsRow slots more (set rows i new) i x) (sym e.1) mine)
      by (inr e) = other id r e.1

pub set_know : (rows : List ClassRow) (i : ℕ) (row new : ClassRow) → slice_get rows i ≡ Some row → new.parent ≡ row.parent
    → new.has_child ≡ row.has_child → KnowChildren rows → KnowChildren (set rows i new)
set_know rows i row new at parent child know id r got = by (set_cases rows i id new r got)
  where
    same : row_parents (set rows i new) ≡ row_parents rows
    same = map_set_same (λ (r : ClassRow). r.parent) rows i row new at parent

    by : ((id ≡ i) × (r ≡ new)) ⊎ ((i ≡ id → ⊥) × (slice_get rows id ≡ Some r)) → r.has_child ≡ has_children (row_parents (set rows i new)) (id_of id)
    by (inl e) = ap (λ (x : ClassRow). x.has_child) e.1 ∙ child ∙ know i row at ∙ (λ t. has_children (sym same t) (id_of (sym e.0 t)))
    by (inr e) = know id r e.1 ∙ ap (λ ps. has_children ps (id_of id)) (sym same)

-- ---- a class comes

-- what is kept of a new child
abbrev pub child_row : ClassRow → ℕ → ClassId → ClassId → ClassRow
child_row above line parent jump =
    record {
      line = line;
      parent = Some parent;
      has_child = false;
      depth = above.depth + 1;
      jump = jump;
      inherited = length above.fields;
      fields = above.fields;
      refs = above.refs;
      plain = above.plain;
      ready = above.ready;
    }

-- references to a class of a table are so when there are more classes
target_wider : (classes all : ℕ) → classes ≤ all → (k : FieldKind) → IsTrue (has_target classes k) → IsTrue (has_target all k)
target_wider classes all le (kind.Ref class) t = let l = ltb-true class.0 classes t in lt-ltb class.0 all (omega arith)
target_wider classes all le kind.Weak t = t
target_wider classes all le kind.Int t = t

module _ (slots names : ℕ) (rows : List ClassRow) (are : AreRows slots names rows) (parent : ClassId) (above : ClassRow)
    (at : slice_get rows parent.0 ≡ Some above) (line : ℕ) (jump : ClassId) (up : IsA (row_parents rows) parent jump) where
  abbrev child : ClassRow
  child = child_row above line parent jump

  abbrev all : List ClassRow
  all = rows ++ child ∷ []

  parents_push : row_parents all ≡ row_parents rows ++ Some parent ∷ []
  parents_push = map_push (λ (r : ClassRow). r.parent) rows child

  weaker : (fs : List FieldRow) → All (IsFieldRow names (length rows)) fs → All (IsFieldRow names (length all)) fs
  weaker fs h = let l = length_push rows child in
      each_wider names names (length rows) (length (rows ++ child ∷ [])) (omega arith)
      (target_wider (length rows) (length (rows ++ child ∷ [])) (omega arith)) fs h

  within : parent.0 < length rows
  within = slice_get_within rows parent.0 above at

  is_far : (id of : ClassId) → id.0 < length rows → IsA (row_parents rows) id of → IsA (row_parents all) id of
  is_far id of lt h =
      subst (λ ps. IsA ps id of) (sym parents_push)
      (isa_push (row_parents rows) (rows_fall slots names rows are) (Some parent) id of
      (let l = length-map rows (λ (r : ClassRow). r.parent) in omega arith) h)

  last : slice_get all (length rows) ≡ Some child
  last = at_push rows child

  youngest : IsRow slots names all (length rows) child
  youngest =
      let h = are parent.0 above at in
      let a = h.adds_up in
      let deep = h.depth in
      let low = isa_low (row_parents rows) (rows_fall slots names rows are) parent jump up in
      let lt = within in
      record {
        adds_up = record { refs = a.refs; plain = a.plain; fits = a.fits; placed = a.placed; different = a.different; inherited = omega arith; ready = a.ready };
        each = weaker above.fields h.each;
        inherits = (within, λ over got. inherit over (push_cases rows parent.0 child over got));
        jump = isa_up (row_parents all) (id_of (length rows)) parent jump (parent_seen all (id_of (length rows)) child last) (is_far parent jump within up);
        lower = λ some. omega arith;
        depth = omega arith;
      }
    where
      inherit : (over : ClassRow) → ((parent.0 ≡ length rows) × (over ≡ child)) ⊎ (slice_get rows parent.0 ≡ Some over) → take (length above.fields) above.fields ≡ over.fields
      inherit over (inl e) = let lt = within in let s = e.0 in absurd (omega arith)
      inherit over (inr got) = take_all (length above.fields) above.fields (omega arith) ∙ ap (λ (r : ClassRow). r.fields) (same_Some above over (sym at ∙ got))

  elder : (id : ℕ) (r : ClassRow) → slice_get rows id ≡ Some r → IsRow slots names all id r
  elder id r here =
      let h = are id r here in
      record {
        adds_up = h.adds_up;
        each = weaker r.fields h.each;
        inherits = inherit r.parent h.inherits;
        jump = is_far (id_of id) r.jump (slice_get_within rows id r here) h.jump;
        lower = h.lower;
        depth = h.depth;
      }
    where
      inherit : (o : Option ClassId) → Inherits rows id r o → Inherits (rows ++ child ∷ []) id r o
      inherit None h = h
      inherit (Some p) h = (h.0, λ over got. by over (push_cases rows p.0 child over got))
        where
          by : (over : ClassRow) → ((p.0 ≡ length rows) × (over ≡ child)) ⊎ (slice_get rows p.0 ≡ Some over) → take r.inherited r.fields ≡ over.fields
          by over (inl e) = let less = h.0 in let lt = slice_get_within rows id r here in let s = e.0 in absurd (omega arith)
          by over (inr got) = h.1 over got

  pub push_are : AreRows slots names (rows ++ child_row above line parent jump ∷ [])
  push_are id r got = by (push_cases rows id child r got)
    where
      by : ((id ≡ length rows) × (r ≡ child)) ⊎ (slice_get rows id ≡ Some r) → IsRow slots names all id r
      by (inl e) = subst (λ (k : ℕ). IsRow slots names all k r) (sym e.0) (subst (λ (x : ClassRow). IsRow slots names all (length rows) x) (sym e.1) youngest)
      by (inr here) = elder id r here

  -- no class has a parent that is not there
  childless : has_children (row_parents rows) (id_of (length rows)) ≡ false
  childless = false_from_ne_true _ (λ h. no (Any-from_list_any (is_id (id_of (length rows))) (row_parents rows) h))
    where
      is_some : (o : Option ClassId) → is_id (id_of (length rows)) o ≡ true → (p : ClassId) × (o ≡ Some p) × (p.0 ≡ length rows)
      is_some None h = absurd cc
      is_some (Some p) h = (p, refl, eqb-true p.0 (length rows) h)

      no : Any (λ o. is_id (id_of (length rows)) o ≡ true) (row_parents rows) → ⊥
      no (k, x, lt, e, t) =
          let s = is_some x t in
          let here : parent_of (row_parents rows) (Some (id_of k)) ≡ Some s.0 = get_or_default (row_parents rows) k None x lt ∙ e ∙ s.1 in
          let less : s.0.0 < k = (rows_fall slots names rows are).falls (id_of k) s.0 here in
          let l = length-map rows (λ (r : ClassRow). r.parent) in
          let n = s.2 in
          absurd (omega arith)

  pub push_know : KnowChildren rows → KnowChildren (set (rows ++ child_row above line parent jump ∷ []) parent.0 (record above { has_child = true }))
  push_know know id r got = by (set_cases all parent.0 id marked r got)
    where
      marked : ClassRow
      marked = record above { has_child = true }

      seen : (n : ℕ) → has_children (row_parents (set all parent.0 marked)) (id_of n) ≡ (has_children (row_parents rows) (id_of n) || ((parent.0 == n) || false))
      seen n =
          ap (λ ps. has_children ps (id_of n)) (map_set_same (λ (x : ClassRow). x.parent) all parent.0 above marked (at_push_left rows parent.0 child above at) refl ∙ parents_push)
          ∙ list_any-append (is_id (id_of n)) (row_parents rows) (Some parent ∷ [])

      apart : (n : ℕ) → (parent.0 ≡ n → ⊥) → (b : Bool) → has_children (row_parents rows) (id_of n) ≡ b → has_children (row_parents (set all parent.0 marked)) (id_of n) ≡ b
      apart n ne b e = seen n ∙ (λ t. e t || (ne_eqb parent.0 n ne t || false)) ∙ or_false b

      by : ((id ≡ parent.0) × (r ≡ marked)) ⊎ ((parent.0 ≡ id → ⊥) × (slice_get all id ≡ Some r)) → r.has_child ≡ has_children (row_parents (set all parent.0 marked)) (id_of id)
      by (inl e) = ap (λ (x : ClassRow). x.has_child) e.1 ∙ sym (seen id ∙ or_right _ ((parent.0 == id) || false) (or_left (parent.0 == id) false (eq-eqb parent.0 id (sym e.0))))
      by (inr e) = old (push_cases rows id child r e.1)
        where
          old : ((id ≡ length rows) × (r ≡ child)) ⊎ (slice_get rows id ≡ Some r) → r.has_child ≡ has_children (row_parents (set all parent.0 marked)) (id_of id)
          old (inl s) = ap (λ (x : ClassRow). x.has_child) s.1 ∙ sym (apart id e.0 false (ap (λ n. has_children (row_parents rows) (id_of n)) s.0 ∙ childless))
          old (inr here) = know id r here ∙ sym (apart id e.0 (has_children (row_parents rows) (id_of id)) refl)

-- ---- names are used

-- a class uses a name
abbrev uses : ℕ → ClassRow → Bool
uses n row = list_any (λ (f : FieldRow). f.name == n) (drop row.inherited row.fields)

-- a name that a class uses is used after a write that keeps it
pub used_set : (rows : List ClassRow) (i : ℕ) (row new : ClassRow) → slice_get rows i ≡ Some row → new.inherited ≡ row.inherited
    → row.inherited ≤ length row.fields → (fs : List FieldRow) → new.fields ≡ row.fields ++ fs → (n : ℕ) → is_used rows n ≡ true
    → is_used (set rows i new) n ≡ true
used_set rows i row new at inherited le fs e n used = any_set (uses n) rows i row new at more used
  where
    more : uses n row ≡ true → uses n new ≡ true
    more h =
        (λ t. list_any (λ (f : FieldRow). f.name == n) (drop (inherited t) (e t)))
        ∙ ap (list_any (λ (f : FieldRow). f.name == n)) (drop-append-le row.inherited row.fields fs le)
        ∙ list_any-append (λ (f : FieldRow). f.name == n) (drop row.inherited row.fields) fs
        ∙ or_left _ (list_any (λ (f : FieldRow). f.name == n) fs) h

-- and so is the name of a field that comes
pub used_here : (rows : List ClassRow) (i : ℕ) (row new : ClassRow) → slice_get rows i ≡ Some row → new.inherited ≡ row.inherited
    → row.inherited ≤ length row.fields → (f : FieldRow) → new.fields ≡ row.fields ++ f ∷ [] → is_used (set rows i new) f.name ≡ true
used_here rows i row new at inherited le f e =
    any_passes_from_place (λ (r : ClassRow). list_any (λ (g : FieldRow). g.name == f.name) (drop r.inherited r.fields)) (set rows i new) i new (at_set rows i new (slice_get_within rows i row at))
    ((λ t. list_any (λ (g : FieldRow). g.name == f.name) (drop (inherited t) (e t)))
    ∙ ap (list_any (λ (g : FieldRow). g.name == f.name)) (drop-append-le row.inherited row.fields (f ∷ []) le)
    ∙ list_any-append (λ (g : FieldRow). g.name == f.name) (drop row.inherited row.fields) (f ∷ [])
    ∙ or_right (list_any (λ (g : FieldRow). g.name == f.name) (drop row.inherited row.fields)) _ (or_left (f.name == f.name) false (eq-eqb f.name f.name refl)))

pub used_push : (rows : List ClassRow) (row : ClassRow) (n : ℕ) → is_used rows n ≡ true → is_used (rows ++ row ∷ []) n ≡ true
used_push rows row n used = list_any-append (λ (r : ClassRow). list_any (λ (f : FieldRow). f.name == n) (drop r.inherited r.fields)) rows (row ∷ []) ∙ or_left _ _ used
