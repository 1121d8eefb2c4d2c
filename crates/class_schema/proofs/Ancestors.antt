-- Ancestors: where they stand, how they join, and the test.
use Rattle.std.proofs.Common.{◌≡◌, ℕ, zero, suc, ◌+◌, ◌<◌, ◌≤◌, refl, sym, ap, ◌∙◌, subst, inl, inr, arith, true, ◌⊎◌, List, [], ◌∷◌, ◌++◌, length, Option, Some, None}
use Rattle.std.proofs.lemmas.Bool.{or_cases, or_left, or_right, eqb-true, eq-eqb}
use Rattle.std.proofs.lemmas.List.{get_or_append_left}
use Rattle.std.proofs.lemmas.Option.{same_Some}
use Rattle.class_schema.specs.Types.{ClassId}
use Rattle.class_schema.specs.Class.{Class}
use Rattle.class_schema.specs.Ancestry.{parents, parent_of, ancestor, IsA, is_id, is_within, is_a}

-- an id by its number
pub same_id : (a b : ClassId) → a.0 ≡ b.0 → a ≡ b
same_id a b e = let id : ℕ → ClassId = λ n. record { 0 = n } in ap id e

-- each parent has a lower id than its child
pub record Falls (ps : List (Option ClassId)) : Type 0 where
  pub falls : (class parent : ClassId) → parent_of ps (Some class) ≡ Some parent → parent.0 < class.0

module _ (ps : List (Option ClassId)) where
  -- nothing stands above nothing
  pub above_none : (n : ℕ) → ancestor ps n None ≡ None
  above_none zero = refl
  above_none (suc n) = above_none n

  pub isa_up : (class parent of : ClassId) → parent_of ps (Some class) ≡ Some parent → IsA ps parent of → IsA ps class of
  isa_up class parent of e h = (suc h.0, ap (ancestor ps h.0) e ∙ h.1)

  -- an ancestor of the parent, or the class itself
  pub isa_down : (class of : ClassId) → IsA ps class of → (class ≡ of) ⊎ ((parent : ClassId) × (parent_of ps (Some class) ≡ Some parent) × IsA ps parent of)
  isa_down class of (zero, e) = inl (same_Some class of e)
  isa_down class of (suc n, e) = go (parent_of ps (Some class)) refl
    where
      go : (o : Option ClassId) → parent_of ps (Some class) ≡ o → (class ≡ of) ⊎ ((parent : ClassId) × (parent_of ps (Some class) ≡ Some parent) × IsA ps parent of)
      go None h = absurd (let f : None ≡ Some of = sym (above_none n) ∙ ap (ancestor ps n) (sym h) ∙ e in cc)
      go (Some parent) h = inr (parent, h, (n, ap (ancestor ps n) (sym h) ∙ e))

  join : (n : ℕ) (o : Option ClassId) (b c : ClassId) → ancestor ps n o ≡ Some b → IsA ps b c → (k : ℕ) × (ancestor ps k o ≡ Some c)
  join zero o b c e h = (h.0, ap (ancestor ps h.0) e ∙ h.1)
  join (suc n) o b c e h = let r = join n (parent_of ps o) b c e h in (suc r.0, r.1)

  -- an ancestor of an ancestor
  pub isa_join : (a b c : ClassId) → IsA ps a b → IsA ps b c → IsA ps a c
  isa_join a b c h k = join h.0 (Some a) b c h.1 k

  module _ (fall : Falls ps) where
    -- so many generations above stands an id that is lower by as many
    pub low : (n : ℕ) (class of : ClassId) → ancestor ps n (Some class) ≡ Some of → of.0 + n ≤ class.0
    low zero class of e = let same : class.0 ≡ of.0 = ap (λ (c : ClassId). c.0) (same_Some class of e) in omega arith
    low (suc n) class of e = go (λ parent. low n parent of) (parent_of ps (Some class)) refl
      where
        go : ((parent : ClassId) → ancestor ps n (Some parent) ≡ Some of → of.0 + n ≤ parent.0) → (o : Option ClassId) → parent_of ps (Some class) ≡ o → of.0 + suc n ≤ class.0
        go rest None h = absurd (let f : None ≡ Some of = sym (above_none n) ∙ ap (ancestor ps n) (sym h) ∙ e in cc)
        go rest (Some parent) h =
            let less = fall.falls class parent h in
            let l = rest parent (ap (ancestor ps n) (sym h) ∙ e) in
            omega arith

    pub isa_low : (class of : ClassId) → IsA ps class of → of.0 ≤ class.0
    isa_low class of h = let l = low h.0 class of h.1 in omega arith

    -- a search may go on at an ancestor that is not below what is sought
    pub isa_jump : (n : ℕ) (class at of : ClassId) → ancestor ps n (Some class) ≡ Some at → of.0 ≤ at.0 → IsA ps class of → IsA ps at of
    isa_jump zero class at of e up h = subst (λ (c : ClassId). IsA ps c of) (same_Some class at e) h
    isa_jump (suc n) class at of e up h = go (λ parent f. isa_jump n parent at of f up) (isa_down class of h)
      where
        go : ((parent : ClassId) → ancestor ps n (Some parent) ≡ Some at → IsA ps parent of → IsA ps at of)
            → (class ≡ of) ⊎ ((parent : ClassId) × (parent_of ps (Some class) ≡ Some parent) × IsA ps parent of) → IsA ps at of
        go rest (inl same) =
            let l = low (suc n) class at e in
            let s : class.0 ≡ of.0 = ap (λ (c : ClassId). c.0) same in
            absurd (omega arith)
        go rest (inr (parent, p, k)) = rest parent (ap (ancestor ps n) (sym p) ∙ e) k

    -- one more class
    pub above_push : (x : Option ClassId) (n : ℕ) (class of : ClassId) → class.0 < length ps → ancestor ps n (Some class) ≡ Some of → ancestor (ps ++ x ∷ []) n (Some class) ≡ Some of
    above_push x zero class of lt e = e
    above_push x (suc n) class of lt e = go (λ parent. above_push x n parent of) (parent_of ps (Some class)) refl
      where
        same : parent_of (ps ++ x ∷ []) (Some class) ≡ parent_of ps (Some class)
        same = get_or_append_left ps (x ∷ []) None class.0 lt

        go : ((parent : ClassId) → parent.0 < length ps → ancestor ps n (Some parent) ≡ Some of → ancestor (ps ++ x ∷ []) n (Some parent) ≡ Some of)
            → (o : Option ClassId) → parent_of ps (Some class) ≡ o → ancestor (ps ++ x ∷ []) (suc n) (Some class) ≡ Some of
        go rest None h = absurd (let f : None ≡ Some of = sym (above_none n) ∙ ap (ancestor ps n) (sym h) ∙ e in cc)
        go rest (Some parent) h =
            let less = fall.falls class parent h in
            ap (ancestor (ps ++ x ∷ []) n) (same ∙ h) ∙ rest parent (omega arith) (ap (ancestor ps n) (sym h) ∙ e)

    pub isa_push : (x : Option ClassId) (class of : ClassId) → class.0 < length ps → IsA ps class of → IsA (ps ++ x ∷ []) class of
    isa_push x class of lt h = (h.0, above_push x h.0 class of lt h.1)

  -- ---- the test

  id_true : (of : ClassId) (o : Option ClassId) → is_id of o ≡ true → o ≡ Some of
  id_true of None h = absurd cc
  id_true of (Some c) h = ap Some (same_id c of (eqb-true c.0 of.0 h))

  id_refl : (of : ClassId) (o : Option ClassId) → o ≡ Some of → is_id of o ≡ true
  id_refl of o e = subst (λ (p : Option ClassId). is_id of p ≡ true) (sym e) (eq-eqb of.0 of.0 refl)

  within_is : (n : ℕ) (o : Option ClassId) (of : ClassId) → is_within ps n o of ≡ true → (k : ℕ) × (ancestor ps k o ≡ Some of)
  within_is zero o of h = absurd cc
  within_is (suc n) o of h = go (within_is n (parent_of ps o) of) (or_cases (is_id of o) _ h)
    where
      go : (is_within ps n (parent_of ps o) of ≡ true → (k : ℕ) × (ancestor ps k (parent_of ps o) ≡ Some of))
          → (is_id of o ≡ true) ⊎ (is_within ps n (parent_of ps o) of ≡ true) → (k : ℕ) × (ancestor ps k o ≡ Some of)
      go rest (inl e) = (zero, id_true of o e)
      go rest (inr e) = let r = rest e in (suc r.0, r.1)

  is_found : (n k : ℕ) (o : Option ClassId) (of : ClassId) → k < n → ancestor ps k o ≡ Some of → is_within ps n o of ≡ true
  is_found zero k o of lt e = absurd (omega arith)
  is_found (suc n) zero o of lt e = or_left (is_id of o) _ (id_refl of o e)
  is_found (suc n) (suc k) o of lt e = or_right (is_id of o) _ (is_found n k (parent_of ps o) of (omega arith) e)

pub test_is : (classes : List Class) (class of : ClassId) → is_a classes class of ≡ true → IsA (parents classes) class of
unfolding is_a
test_is classes class of h = within_is (parents classes) (suc class.0) (Some class) of h

pub is_test : (classes : List Class) (class of : ClassId) → Falls (parents classes) → IsA (parents classes) class of → is_a classes class of ≡ true
unfolding is_a
is_test classes class of fall h =
    let l = low (parents classes) fall h.0 class of h.1 in
    is_found (parents classes) (suc class.0) h.0 (Some class) of (omega arith) h.1
