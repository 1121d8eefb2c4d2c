-- The classes that contracts see, by what is kept of them.
use Rattle.std.proofs.Common.{◌≡◌, ℕ, zero, suc, ◌<◌, ◌≤◌, refl, sym, ap, ◌∙◌, inl, inr, arith, ◌⊎◌, List, [], ◌∷◌, ◌++◌, length, map, take, drop, Option, Some, None, option_map, slice_get, String}
use Rattle.std.specs.declared.alloc.Global.{Global}
use Rattle.std.proofs.lemmas.List.{length-map, map-append, take-append-drop, append-nil, get_or_past}
use Rattle.std.proofs.lemmas.Bool.{cases_lt}
use Rattle.std.proofs.lemmas.Option.{slice_get-map, slice_get_within, get_or_from_slice_get, same_Some}
use Rattle.class_schema.specs.declared.rows.ClassRow.{ClassRow}
use Rattle.class_schema.specs.Types.{ClassId}
use Rattle.class_schema.specs.Class.{Class}
use Rattle.class_schema.specs.Ancestry.{object, class_at, parents, parent_of, own_fields, fields_within, fields}
use Rattle.class_schema.specs.Table.{id_of}
use Rattle.class_schema.specs.Rows.{declaration_of, class_of, classes_of, rows_of, row_parents, Inherits, AreRows}
use Rattle.class_schema.proofs.Places.{entry_of}
use Rattle.class_schema.proofs.Ancestors.{Falls}

abbrev pub Entries : Type 0
Entries = List (String Global × ClassRow)

-- a place that is within a list has an element
pub something : {A : Type 0} (xs : List A) (i : ℕ) → i < length xs → (x : A) × (slice_get xs i ≡ Some x)
something [] i lt = absurd (omega arith)
something (x ∷ xs) zero lt = (x, refl)
something (x ∷ xs) (suc i) lt = something xs i (omega arith)

pub length_rows : (es : Entries) → length (rows_of es) ≡ length es
length_rows es = length-map es (λ e. e.1)

pub parents_seen : (names : List (List ℕ)) (es : Entries) → parents (classes_of names es) ≡ row_parents (rows_of es)
parents_seen names [] = refl
parents_seen names (e ∷ es) = ap (λ ps. e.1.parent ∷ ps) (parents_seen names es)

-- a class, by what is kept of it
pub class_seen : (names : List (List ℕ)) (es : Entries) (id : ClassId) (row : ClassRow) → slice_get (rows_of es) id.0 ≡ Some row
    → (key : String Global) × (slice_get es id.0 ≡ Some (key, row)) × (class_at (classes_of names es) id ≡ class_of names (key, row))
class_seen names es id row at =
    let e = entry_of es id.0 row at in
    (e.0, e.1, get_or_from_slice_get (classes_of names es) id.0 (class_of names (e.0, row)) object (slice_get-map (class_of names) es id.0 ∙ ap (option_map (class_of names)) e.1))

-- the parent of a class
pub parent_seen : (rows : List ClassRow) (id : ClassId) (row : ClassRow) → slice_get rows id.0 ≡ Some row → parent_of (row_parents rows) (Some id) ≡ row.parent
parent_seen rows id row at = get_or_from_slice_get (row_parents rows) id.0 row.parent None (slice_get-map (λ (r : ClassRow). r.parent) rows id.0 ∙ ap (option_map (λ (r : ClassRow). r.parent)) at)

module _ (slots count : ℕ) (rows : List ClassRow) (are : AreRows slots count rows) where
  -- parents stand before their children
  pub rows_fall : Falls (row_parents rows)
  rows_fall = record { falls = λ class parent e. by class parent e (cases_lt class.0 (length rows)) }
    where
      from : (class parent : ClassId) (row : ClassRow) (o : Option ClassId) → Inherits rows class.0 row o → o ≡ Some parent → parent.0 < class.0
      from class parent row None h e = absurd cc
      from class parent row (Some p) h e = let s : p.0 ≡ parent.0 = ap (λ (c : ClassId). c.0) (same_Some p parent e) in let l = h.0 in omega arith

      by : (class parent : ClassId) → parent_of (row_parents rows) (Some class) ≡ Some parent → (class.0 < length rows) ⊎ (length rows ≤ class.0) → parent.0 < class.0
      by class parent e (inl lt) = let r = something rows class.0 lt in from class parent r.0 r.0.parent (are class.0 r.0 r.1).inherits (sym (parent_seen rows class r.0 r.1) ∙ e)
      by class parent e (inr past) =
          absurd
          (let l = length-map rows (λ (r : ClassRow). r.parent) in
          let n : None ≡ Some parent = sym (get_or_past (row_parents rows) class.0 None (omega arith)) ∙ e in
          cc)

-- nothing has no fields
pub none_within : (classes : List Class) (n : ℕ) → fields_within classes n None ≡ []
none_within classes zero = refl
none_within classes (suc n) = append-nil (fields_within classes n None) ∙ none_within classes n

module _ (slots count : ℕ) (names : List (List ℕ)) (es : Entries) (are : AreRows slots count (rows_of es)) where
  -- the fields of a class over more generations than its id says
  within_seen : (n id : ℕ) (row : ClassRow) → slice_get (rows_of es) id ≡ Some row → id < n → fields_within (classes_of names es) n (Some (id_of id)) ≡ map (declaration_of names) row.fields
  within_seen zero id row at lt = absurd (omega arith)
  within_seen (suc n) id row at lt =
      go (λ p above. within_seen n p above) row.parent (are id row at).inherits
      (ap (λ ps. parent_of ps (Some (id_of id))) (parents_seen names es) ∙ parent_seen (rows_of es) (id_of id) row at)
    where
      own : own_fields (classes_of names es) (Some (id_of id)) ≡ map (declaration_of names) (drop row.inherited row.fields)
      own = ap (λ (c : Class). c.own) (class_seen names es (id_of id) row at).2

      go : ((p : ℕ) (above : ClassRow) → slice_get (rows_of es) p ≡ Some above → p < n → fields_within (classes_of names es) n (Some (id_of p)) ≡ map (declaration_of names) above.fields)
          → (o : Option ClassId) → Inherits (rows_of es) id row o → parent_of (parents (classes_of names es)) (Some (id_of id)) ≡ o
          → fields_within (classes_of names es) (suc n) (Some (id_of id)) ≡ map (declaration_of names) row.fields
      go rest None inh e =
          let none : fields_within (classes_of names es) n (parent_of (parents (classes_of names es)) (Some (id_of id))) ≡ [] =
          ap (fields_within (classes_of names es) n) e ∙ none_within (classes_of names es) n in
          (λ t. none t ++ own t) ∙ ap (λ k. map (declaration_of names) (drop k row.fields)) inh.1
      go rest (Some p) inh e =
          let below = inh.0 in
          let here = slice_get_within (rows_of es) id row at in
          let above = something (rows_of es) p.0 (omega arith) in
          let up : fields_within (classes_of names es) n (parent_of (parents (classes_of names es)) (Some (id_of id))) ≡ map (declaration_of names) (take row.inherited row.fields)
          = ap (fields_within (classes_of names es) n) e ∙ rest p.0 above.0 above.1 (omega arith) ∙ ap (map (declaration_of names)) (sym (inh.1 above.0 above.1)) in
          (λ t. up t ++ own t) ∙ sym (map-append (declaration_of names) (take row.inherited row.fields) (drop row.inherited row.fields))
          ∙ ap (map (declaration_of names)) (take-append-drop row.inherited row.fields)

  -- the fields of a class
  pub fields_seen : (id : ClassId) (row : ClassRow) → slice_get (rows_of es) id.0 ≡ Some row → fields (classes_of names es) id ≡ map (declaration_of names) row.fields
  unfolding fields
  fields_seen id row at = within_seen (suc id.0) id.0 row at (omega arith)
