-- Marking a unit, and the places of the worklist.
use Rattle.std.proofs.Common.{◌≡◌, ◌≢◌, ℕ, ◌<◌, ◌≤◌, ◌||◌, ◌&&◌, not, refl, sym, subst, ap, ◌∙◌, inl, inr, zero, suc, arith, Bool, true, false, List, [], ◌∷◌, ◌++◌, length, length-append, get_or, drop, ◌⊎◌}
use Rattle.std.specs.List.{list_any}
use Rattle.std.proofs.Math.ListN.{set}
use Rattle.std.proofs.Math.Logic.{dite}
use Rattle.std.proofs.Math.Decide.{ℕ_discrete}
use Rattle.std.proofs.lemmas.Bool.{and_from}
use Rattle.std.proofs.lemmas.List.{get_or-set_same, get_or-set_other, drop-append-le}
use Rattle.world_model.specs.Sizes.{Sizes}
use Rattle.world_model.specs.NameLists.{same_name, has}
use Rattle.world_model.specs.Midway.{AreApart}
use Rattle.world_model.proofs.ListFacts.{Among, among_append, and_true, or_right, among_left, among_right, test_among, among_test}
use Rattle.world_model.proofs.NameFacts.{same_name_true, same_name_refl, has_among, among_has}
use Rattle.heap_plain.specs.Types.{Name, Kind}
use Rattle.heap_plain.specs.Parts.{Objects}
use Rattle.heap_plain.specs.Lists.{Distinct}
use Rattle.heap_plain.specs.Units.{NamesShow, UnitsShow, StandsAt}
use Rattle.heap_plain.specs.Painted.{Painted, IsWorklist, grey_of, greyed}
use Rattle.heap_plain.specs.Colouring.{MarksShow}
use Rattle.heap_plain.proofs.WorldFacts.{any_same, no_longer}
use Rattle.heap_plain.proofs.Standing.{one_unit, head_of, bit_below}

-- ---- lists without repetition

pub distinct_snoc : {A : Type 0} (xs : List A) (x : A) → Distinct xs → (Among xs x → ⊥) → Distinct (xs ++ x ∷ [])
distinct_snoc [] x d out = ((λ h. h), tt)
distinct_snoc (y ∷ xs) x d out = ((λ h. both (among_append xs (x ∷ []) y h)), distinct_snoc xs x d.1 (λ h. out (inr h)))
  where
    both : Among xs y ⊎ ((x ≡ y) ⊎ ⊥) → ⊥
    both (inl a) = d.0 a
    both (inr (inl e)) = out (inl (sym e))
    both (inr (inr e)) = e

pub distinct_drop : {A : Type 0} (n : ℕ) (xs : List A) → Distinct xs → Distinct (drop n xs)
distinct_drop zero xs d = d
distinct_drop (suc n) [] d = tt
distinct_drop (suc n) (x ∷ xs) d = distinct_drop n xs d.1

-- the numbers below n
below : ℕ → List ℕ
below zero = []
below (suc n) = n ∷ below n

length-below : (n : ℕ) → length (below n) ≡ n
unfolding below
length-below zero = refl
length-below (suc n) = let t = length-below n in omega arith

among_below : (n k : ℕ) → k < n → Among (below n) k
unfolding below
among_below zero k h = absurd (omega arith)
among_below (suc n) k h = dite (ℕ_discrete n k) (λ (e : n ≡ k). inl e) (λ (ne : n ≢ k). inr (among_below n k (omega arith)))

-- numbers below n, none twice, are at most n
pub few_below : (n : ℕ) (xs : List ℕ) → Distinct xs → ((k : ℕ) → Among xs k → k < n) → length xs ≤ n
few_below n xs d less = let t = no_longer xs (below n) d (λ k h. among_below n k (less k h)) in omega (arith, length-below n)

-- ---- the worklist

pub set_still : (bits : List Bool) (x i : ℕ) → get_or bits i false ≡ true → get_or (set bits x true) i false ≡ true
set_still bits x i e = dite (ℕ_discrete i x)
    (λ (here : i ≡ x). ap (λ (j : ℕ). get_or (set bits x true) j false) here ∙ get_or-set_same bits x true false (subst (λ (j : ℕ). j < length bits) here (bit_below bits i e)))
    (λ (ne : i ≢ x). get_or-set_other bits x i true false ne ∙ e)

-- a white unit has room on it
pub worklist_room : {c : Painted} (head : ℕ) → IsWorklist c → head < length c.marked → get_or c.marked head false ≡ false → length c.listed < length c.marked
worklist_room {c} head w inside white =
    let t = few_below (length c.marked) (head ∷ c.listed) ((λ a. let black_bit = w.set head a in absurd (cc)), w.distinct) small in
    omega arith
  where
    small : (i : ℕ) → (head ≡ i) ⊎ Among c.listed i → i < length c.marked
    small i (inl e) = omega arith
    small i (inr a) = bit_below c.marked i (w.set i a)

pub worklist_push : {c : Painted} (head : ℕ) → IsWorklist c → head < length c.marked → get_or c.marked head false ≡ false → IsWorklist (greyed c head)
worklist_push {c} head w inside white = record {
  distinct = distinct_snoc c.listed head w.distinct (λ a. let black_bit = w.set head a in absurd (cc));
  set = λ i a. bit i (among_append c.listed (head ∷ []) i a);
}
  where
    bit : (i : ℕ) → Among c.listed i ⊎ ((head ≡ i) ⊎ ⊥) → get_or (set c.marked head true) i false ≡ true
    bit i (inl a) = set_still c.marked head i (w.set i a)
    bit i (inr (inl e)) = ap (λ (j : ℕ). get_or (set c.marked head true) j false) (sym e) ∙ get_or-set_same c.marked head true false inside
    bit i (inr (inr a)) = absurd a

-- ---- one unit

-- a unit with a kept member has one when more is kept
pub kept_still : (u kept : List Name) (n : Name) → list_any (has kept) u ≡ true → list_any (has (n ∷ kept)) u ≡ true
kept_still u kept n e = let f = test_among (has kept) u e in among_test (has (n ∷ kept)) u f.0 f.1 (or_right (same_name f.0 n) _ f.2)

module _ {z : Sizes} {o : Objects} {kinds : ℕ → List Kind} {units : List (List Name)} (ns : NamesShow z o.names kinds) (us : UnitsShow z o units) (apart : AreApart kinds units) where
  abbrev Stands : ℕ → List Name → Type 0
  Stands head u = StandsAt o units head u

  -- a name of one unit is in no other
  pub not_in : (head other : ℕ) (u v : List Name) (n m : Name) → Stands head u → Stands other v → has u n ≡ true → other ≢ head → Among v m → same_name m n ≡ false
  not_in head other u v n m t q e ne a = go (same_name m n) refl
    where
      go : (b : Bool) → same_name m n ≡ b → b ≡ false
      go false is = refl
      go true is =
          let at_n : Among v n = subst (λ (x : Name). Among v x) (same_name_true m n is) a in
          let j = t.inside n e in
          absurd (ne (sym (head_of ns other v q j.0 n j.1.name (among_has v n at_n)) ∙ head_of ns head u t j.0 n j.1.name e))

  kept_same : (head other : ℕ) (u v : List Name) (n : Name) (kept : List Name) → Stands head u → Stands other v → has u n ≡ true → other ≢ head → list_any (has kept) v ≡ list_any (has (n ∷ kept)) v
  kept_same head other u v n kept t q e ne = any_same (has kept) (has (n ∷ kept)) v (λ m a. let f = not_in head other u v n m t q e ne a in rw f refl)

  marked_same : (head other : ℕ) (u v : List Name) (n : Name) (kept fresh : List Name) → Stands head u → Stands other v → has u n ≡ true → other ≢ head
      → list_any (λ m. has kept m || has fresh m) v ≡ list_any (λ m. has (n ∷ kept) m || has fresh m) v
  marked_same head other u v n kept fresh t q e ne = any_same _ _ v (λ m a. let f = not_in head other u v n m t q e ne a in rw f refl)

  -- where a member is kept, the unit is marked, and it is kept
  kept_now : (u kept fresh : List Name) (n : Name) → has u n ≡ true → list_any (λ m. has (n ∷ kept) m || has fresh m) u ≡ true
  kept_now u kept fresh n e = among_test (λ m. has (n ∷ kept) m || has fresh m) u n (has_among u n e) (let t = same_name_refl n in rw t refl)

  kept_there : (u kept : List Name) (n : Name) → has u n ≡ true → list_any (has (n ∷ kept)) u ≡ true
  kept_there u kept n e = among_test (has (n ∷ kept)) u n (has_among u n e) (let t = same_name_refl n in rw t refl)

  -- a white unit is marked
  pub mark_one : {c : Painted} {kept fresh scanned : List Name} (head : ℕ) (u : List Name) (n : Name) → Stands head u
      → has u n ≡ true → get_or c.marked head false ≡ false → head < length c.marked → (list_any (has scanned) u ≡ true → list_any (has kept) u ≡ true)
      → MarksShow o units c kept fresh scanned → MarksShow o units (greyed c head) (n ∷ kept) fresh scanned
  mark_one {c} {kept} {fresh} {scanned} head u n t e white inside sk k = record {
    bits = bits;
    worklist = worklist_push head k.worklist inside white;
    order = omega (arith, k.order, length-append c.listed (head ∷ []));
    grey_units = λ other a. grey_units other (among_append (grey_of c) (head ∷ []) other (subst (λ (xs : List ℕ). Among xs other) grey_is a));
    all_grey = λ other v q is. subst (λ (xs : List ℕ). Among xs other) (sym grey_is) (all_grey other v q is);
  }
    where
      grey_is : grey_of (greyed c head) ≡ grey_of c ++ head ∷ []
      grey_is = drop-append-le c.scanned c.listed (head ∷ []) k.order

      bits : (other : ℕ) (v : List Name) → Stands other v → get_or (set c.marked head true) other false ≡ list_any (λ m. has (n ∷ kept) m || has fresh m) v
      bits other v q = dite (ℕ_discrete other head)
          (λ (here : other ≡ head).
          let same : u ≡ v = one_unit apart us head u v t (subst (λ (x : ℕ). Stands x v) here q) in
          ap (λ (j : ℕ). get_or (set c.marked head true) j false) here ∙ get_or-set_same c.marked head true false inside
          ∙ sym (kept_now v kept fresh n (subst (λ (x : List Name). has x n ≡ true) same e)))
          (λ (ne : other ≢ head). get_or-set_other c.marked head other true false ne ∙ k.bits other v q ∙ marked_same head other u v n kept fresh t q e ne)

      not_scanned : list_any (has scanned) u ≡ false
      not_scanned = go (list_any (has scanned) u) refl
        where
          go : (b : Bool) → list_any (has scanned) u ≡ b → b ≡ false
          go false is = refl
          go true is =
              let f = test_among (has kept) u (sk is) in
              let marked_now = k.bits head u t ∙ among_test (λ m. has kept m || has fresh m) u f.0 f.1 (rw f.2 refl) in
              absurd (let w = white in cc)

      grey_units : (other : ℕ) → Among (grey_of c) other ⊎ ((head ≡ other) ⊎ ⊥) → (v : List Name) × Stands other v × ((list_any (has (n ∷ kept)) v && not (list_any (has scanned) v)) ≡ true)
      grey_units other (inl a) = let r = k.grey_units other a in let parts = and_true _ _ r.2 in (r.0, r.1, and_from _ _ (kept_still r.0 kept n parts.0) parts.1)
      grey_units other (inr (inl here)) = (u, subst (λ (x : ℕ). Stands x u) here t, and_from _ _ (kept_there u kept n e) (ap not not_scanned))
      grey_units other (inr (inr a)) = absurd a

      all_grey : (other : ℕ) (v : List Name) → Stands other v → (list_any (has (n ∷ kept)) v && not (list_any (has scanned) v)) ≡ true → Among (grey_of c ++ head ∷ []) other
      all_grey other v q is = dite (ℕ_discrete head other)
          (λ (here : head ≡ other). among_right (grey_of c) (head ∷ []) other (inl here))
          (λ (ne : head ≢ other). among_left (grey_of c) (head ∷ []) other (k.all_grey other v q
          (let parts = and_true _ _ is in and_from _ _ (kept_same head other u v n kept t q e (λ x. ne (sym x)) ∙ parts.0) parts.1)))
