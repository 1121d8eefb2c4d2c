-- What a class has from its ancestors.
use Rattle.std.proofs.Common.{◌≡◌, ℕ, zero, suc, ◌<◌, ◌≤◌, refl, sym, ap, ◌∙◌, inl, inr, arith, Bool, true, false, cond, ◌⊎◌, List, [], ◌∷◌, ◌++◌, length, Option, Some, None, option_map}
use Rattle.std.specs.List.{find}
use Rattle.std.proofs.lemmas.Bool.{cases_lt}
use Rattle.std.proofs.lemmas.List.{length-map, append-nil, append_assoc, get_or-map, get_or_past}
use Rattle.std.proofs.lemmas.Option.{same_Some}
use Rattle.class_schema.specs.Types.{ClassId, Field}
use Rattle.class_schema.specs.Class.{Declaration, Class, Schema}
use Rattle.class_schema.specs.Layout.{Placed, layout, first_slot, as_field}
use Rattle.class_schema.specs.Ancestry.{object, class_at, parents, parent_of, ancestor, IsA, fields_within, fields}
use Rattle.class_schema.specs.Table.{is_called, find_field}
use Rattle.class_schema.specs.Lawful.{HasParent, IsSchema}
use Rattle.class_schema.specs.Laws.{HasFieldsOf, FieldsInherited, SlotsInherited, AncestryTested}
use Rattle.class_schema.proofs.Ancestors.{Falls, above_none, test_is, is_test}
use Rattle.class_schema.proofs.Views.{none_within}

-- a field that is found among the first is found among more
found_first : (p : Placed → Bool) (slots : ℕ) (head fs more : List Declaration) (q : Placed) → find p (layout slots head fs) ≡ Some q → find p (layout slots head (fs ++ more)) ≡ Some q
found_first p slots head [] more q e = absurd cc
found_first p slots head (f ∷ fs) more q e = go (p here) e (found_first p slots (head ++ f ∷ []) fs more q)
  where
    here : Placed
    here = record { declared = f; first = first_slot slots head f.kind }

    go : (b : Bool) → cond b (Some here) (find p (layout slots (head ++ f ∷ []) fs)) ≡ Some q
        → (find p (layout slots (head ++ f ∷ []) fs) ≡ Some q → find p (layout slots (head ++ f ∷ []) (fs ++ more)) ≡ Some q)
        → cond b (Some here) (find p (layout slots (head ++ f ∷ []) (fs ++ more))) ≡ Some q
    go true e rest = e
    go false e rest = rest e

module _ (t : Schema) (lawful : IsSchema t) where
  -- parents stand before their children
  pub schema_falls : Falls (parents t.classes)
  schema_falls = record { falls = λ class parent e. by class parent e (cases_lt class.0 (length t.classes)) }
    where
      from : (class parent : ClassId) (o : Option ClassId) → HasParent class o → o ≡ Some parent → parent.0 < class.0
      from class parent None h e = absurd cc
      from class parent (Some p) h e = let same : p.0 ≡ parent.0 = ap (λ (c : ClassId). c.0) (same_Some p parent e) in omega arith

      by : (class parent : ClassId) → parent_of (parents t.classes) (Some class) ≡ Some parent → (class.0 < length t.classes) ⊎ (length t.classes ≤ class.0) → parent.0 < class.0
      by class parent e (inl lt) = from class parent (class_at t.classes class).parent (lawful.each class lt).older (sym (get_or-map (λ (c : Class). c.parent) t.classes class.0 object None lt) ∙ e)
      by class parent e (inr past) =
          absurd
          (let l = length-map t.classes (λ (c : Class). c.parent) in
          let n : None ≡ Some parent = sym (get_or_past (parents t.classes) class.0 None (omega arith)) ∙ e in
          cc)

  -- more generations than an id says add nothing
  enough : (n m : ℕ) (class : ClassId) → class.0 < n → class.0 < m → fields_within t.classes n (Some class) ≡ fields_within t.classes m (Some class)
  enough zero m class a b = absurd (omega arith)
  enough (suc n) zero class a b = absurd (omega arith)
  enough (suc n) (suc m) class a b =
      ap (λ up. up ++ (class_at t.classes class).own)
      (go (parent_of (parents t.classes) (Some class)) (λ parent e. schema_falls.falls class parent e) (λ parent. enough n m parent))
    where
      go : (o : Option ClassId) → ((parent : ClassId) → o ≡ Some parent → parent.0 < class.0)
          → ((parent : ClassId) → parent.0 < n → parent.0 < m → fields_within t.classes n (Some parent) ≡ fields_within t.classes m (Some parent))
          → fields_within t.classes n o ≡ fields_within t.classes m o
      go None low rest = none_within t.classes n ∙ sym (none_within t.classes m)
      go (Some parent) low rest = let less = low parent refl in rest parent (omega arith) (omega arith)

  inherited : (class : ClassId) (o : Option ClassId) → parent_of (parents t.classes) (Some class) ≡ o → HasFieldsOf t.classes (class_at t.classes class) (fields t.classes class) o
  unfolding fields
  inherited class None e = ap (λ up. up ++ (class_at t.classes class).own) (ap (fields_within t.classes class.0) e ∙ none_within t.classes class.0)
  inherited class (Some parent) e =
      let less = schema_falls.falls class parent e in
      ap (λ up. up ++ (class_at t.classes class).own) (ap (fields_within t.classes class.0) e ∙ enough class.0 (suc parent.0) parent (omega arith) (omega arith))

  -- the fields of an ancestor come first
  first_fields : (n : ℕ) (class of : ClassId) → ancestor (parents t.classes) n (Some class) ≡ Some of → (more : List Declaration) × (fields t.classes class ≡ fields t.classes of ++ more)
  first_fields zero class of e = ([], ap (fields t.classes) (same_Some class of e) ∙ sym (append-nil (fields t.classes of)))
  first_fields (suc n) class of e = go (parent_of (parents t.classes) (Some class)) refl (inherited class (parent_of (parents t.classes) (Some class)) refl) (λ parent. first_fields n parent of)
    where
      go : (o : Option ClassId) → parent_of (parents t.classes) (Some class) ≡ o → HasFieldsOf t.classes (class_at t.classes class) (fields t.classes class) o
          → ((parent : ClassId) → ancestor (parents t.classes) n (Some parent) ≡ Some of
          → (more : List Declaration) × (fields t.classes parent ≡ fields t.classes of ++ more))
          → (more : List Declaration) × (fields t.classes class ≡ fields t.classes of ++ more)
      go None is has rest = absurd (let f : None ≡ Some of = sym (above_none (parents t.classes) n) ∙ ap (ancestor (parents t.classes) n) (sym is) ∙ e in cc)
      go (Some parent) is has rest =
          let r = rest parent (ap (ancestor (parents t.classes) n) (sym is) ∙ e) in
          (r.0 ++ (class_at t.classes class).own, has ∙ ap (λ up. up ++ (class_at t.classes class).own) r.1 ∙ append_assoc (fields t.classes of) r.0 (class_at t.classes class).own)

  slots_kept : (class of : ClassId) → IsA (parents t.classes) class of → (name : List ℕ) (field : Field) → find_field t of name ≡ Some field → find_field t class name ≡ Some field
  unfolding find_field
  slots_kept class of h name field e =
      let r = first_fields h.0 class of h.1 in
      ap (λ fs. option_map as_field (find (λ (p : Placed). is_called name p.declared) (layout t.slots [] fs))) r.1
      ∙ go r.0 (find (λ (p : Placed). is_called name p.declared) (layout t.slots [] (fields t.classes of))) refl e
    where
      go : (more : List Declaration) (o : Option Placed)
          → find (λ (p : Placed). is_called name p.declared) (layout t.slots [] (fields t.classes of)) ≡ o → option_map as_field o ≡ Some field
          → option_map as_field (find (λ (p : Placed). is_called name p.declared) (layout t.slots [] (fields t.classes of ++ more))) ≡ Some field
      go more None is s = absurd cc
      go more (Some p) is s = ap (option_map as_field) (found_first (λ (q : Placed). is_called name q.declared) t.slots [] (fields t.classes of) more p is) ∙ s

pub fields_inherited_holds : FieldsInherited
fields_inherited_holds t lawful class lt = inherited t lawful class (class_at t.classes class).parent (get_or-map (λ (c : Class). c.parent) t.classes class.0 object None lt)

pub slots_inherited_holds : SlotsInherited
slots_inherited_holds t lawful class of lt h = slots_kept t lawful class of h

pub ancestry_tested_holds : AncestryTested
ancestry_tested_holds t lawful class of = (test_is t.classes class of, is_test t.classes class of (schema_falls t lawful))
