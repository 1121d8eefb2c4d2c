-- A unit that is scanned.
use Rattle.std.proofs.Common.{◌≡◌, ◌≢◌, ℕ, ◌+◌, ◌<◌, ◌&&◌, not, refl, sym, subst, ap, ◌∙◌, inl, inr, suc, arith, Bool, cond, true, false, List, [], ◌∷◌, length, ◌⊎◌, filter, Option, Some}
use Rattle.std.specs.List.{list_any, sum_by}
use Rattle.std.proofs.Math.Logic.{dite}
use Rattle.std.proofs.Math.Decide.{ℕ_discrete}
use Rattle.std.proofs.lemmas.Bool.{and_from}
use Rattle.std.proofs.lemmas.List.{drop_more}
use Rattle.std.proofs.lemmas.List.Sums.{sum_by-append}
use Rattle.world_model.specs.Sizes.{Sizes}
use Rattle.world_model.specs.NameLists.{same_name, same_pass, has}
use Rattle.world_model.specs.State.{Marks, is_grey, grey_in}
use Rattle.world_model.specs.Engines.{is_marker}
use Rattle.world_model.specs.Midway.{AreApart}
use Rattle.world_model.proofs.ListFacts.{Among, and_true, or_true, among_test}
use Rattle.world_model.proofs.NameFacts.{same_name_true, same_name_refl, has_among}
use Rattle.heap_plain.specs.Types.{Name, Kind, Pass, Lane, Marker, Collector, Phase, Idle, Marking, Gathering}
use Rattle.heap_plain.specs.Parts.{Objects, name_at, next_at}
use Rattle.heap_plain.specs.Listing.{chained}
use Rattle.heap_plain.specs.Lists.{Distinct}
use Rattle.heap_plain.specs.Units.{NamesShow, UnitsShow, StandsAt, AreLinked}
use Rattle.heap_plain.specs.Painted.{Painted, IsNextGrey, grey_of, blackened}
use Rattle.heap_plain.specs.Colouring.{MarksShow}
use Rattle.heap_plain.proofs.WorldFacts.{any_same}
use Rattle.heap_plain.proofs.Standing.{one_unit}
use Rattle.heap_plain.proofs.MarkSteps.{not_in, distinct_drop}
use Rattle.heap_plain.proofs.Listings.{chained_next}

-- ---- one unit is scanned

module _ {z : Sizes} {o : Objects} {kinds : ℕ → List Kind} {units : List (List Name)} (ns : NamesShow z o.names kinds) (us : UnitsShow z o units) (apart : AreApart kinds units) where
  scanned_same : (head other : ℕ) (u v : List Name) (n : Name) (scanned : List Name) → StandsAt o units head u → StandsAt o units other v
      → has u n ≡ true → other ≢ head → list_any (has scanned) v ≡ list_any (has (n ∷ scanned)) v
  scanned_same head other u v n scanned t q e ne = any_same (has scanned) (has (n ∷ scanned)) v (λ m a. let f = not_in ns us apart head other u v n m t q e ne a in rw f refl)

  pub scan_one : {c : Painted} {kept fresh scanned : List Name} (head : ℕ) (u : List Name) (n : Name) → StandsAt o units head u → has u n ≡ true
      → IsNextGrey c head → MarksShow o units c kept fresh scanned → MarksShow o units (blackened c) kept fresh (n ∷ scanned)
  scan_one {c} {kept} {fresh} {scanned} head u n t e first k = record {
    bits = k.bits;
    worklist = record { distinct = k.worklist.distinct; set = k.worklist.set };
    order = omega (arith, first.some);
    grey_units = λ other a.
        let r = k.grey_units other (subst (λ (xs : List ℕ). Among xs other) (sym grey_is) (inr a)) in
        let ne : other ≢ head = λ same. once.0 (subst (λ (x : ℕ). Among (grey_of (blackened c)) x) same a) in
        let parts = and_true _ _ r.2 in
        (r.0, r.1, and_from _ _ parts.0 (ap not (sym (scanned_same head other u r.0 n scanned t r.1 e ne)) ∙ parts.1));
    all_grey = λ other v q is. all_grey other v q is (dite (ℕ_discrete other head) (λ (same : other ≡ head). inl same) (λ (ne : other ≢ head). inr ne));
  }
    where
      grey_is : grey_of c ≡ head ∷ grey_of (blackened c)
      grey_is = drop_more c.listed c.scanned 0 first.some ∙ ap (λ (x : ℕ). x ∷ grey_of (blackened c)) (sym first.first)

      once : Distinct (head ∷ grey_of (blackened c))
      once = subst (λ (xs : List ℕ). Distinct xs) grey_is (distinct_drop c.scanned c.listed k.worklist.distinct)

      wrong : (b : Bool) → b ≡ true → not b ≡ true → ⊥
      wrong true e f = cc
      wrong false e f = cc

      scanned_now : list_any (has (n ∷ scanned)) u ≡ true
      scanned_now = among_test (has (n ∷ scanned)) u n (has_among u n e) (let r = same_name_refl n in rw r refl)

      all_grey : (other : ℕ) (v : List Name) → StandsAt o units other v → (list_any (has kept) v && not (list_any (has (n ∷ scanned)) v)) ≡ true
          → (other ≡ head) ⊎ (other ≢ head) → Among (grey_of (blackened c)) other
      all_grey other v q is (inl same) =
          let unit : u ≡ v = one_unit apart us head u v t (subst (λ (x : ℕ). StandsAt o units x v) same q) in
          absurd (wrong (list_any (has (n ∷ scanned)) u) scanned_now (ap (λ (x : List Name). not (list_any (has (n ∷ scanned)) x)) unit ∙ (and_true (list_any (has kept) v) _ is).1))
      all_grey other v q is (inr ne) =
          let parts = and_true _ _ is in
          rest (subst (λ (xs : List ℕ). Among xs other) grey_is
          (k.all_grey other v q (and_from _ _ parts.0 (ap not (scanned_same head other u v n scanned t q e ne) ∙ parts.1))))
        where
          rest : (head ≡ other) ⊎ Among (grey_of (blackened c)) other → Among (grey_of (blackened c)) other
          rest (inl same) = absurd (ne (sym same))
          rest (inr a) = a

-- ---- what a slice finds at a member

-- the index of a member of a unit, along its links
pub linked_place : (names : List (Option Name)) (links : List ℕ) (i : ℕ) (u : List Name) (n : Name) → AreLinked names links i u → has u n ≡ true
    → (k : ℕ) × (k < length u) × (name_at names (chained links i k) ≡ Some n)
linked_place names links i [] n h e = absurd cc
linked_place names links i (m ∷ u) n h e = go (or_true (same_name n m) (has u n) e) (linked_place names links (next_at links i) u n h.1)
  where
    go : (same_name n m ≡ true) ⊎ (has u n ≡ true)
        → (has u n ≡ true → (k : ℕ) × (k < length u) × (name_at names (chained links (next_at links i) k) ≡ Some n))
        → (k : ℕ) × (k < length (m ∷ u)) × (name_at names (chained links i k) ≡ Some n)
    go (inl same) rest = (0, omega arith, h.0 ∙ ap (λ (x : Name). Some x) (sym (same_name_true n m same)))
    go (inr more) rest = let r = rest more in (suc r.0, omega (arith, r.1), ap (name_at names) (chained_next links i r.0) ∙ r.2)

pub count_cons : {A : Type 0} (f : A → ℕ) (x : A) (xs : List A) → sum_by f (x ∷ xs) ≡ f x + sum_by f xs
count_cons f x xs = let t : sum_by f (x ∷ xs) ≡ 0 + f x + sum_by f xs = sum_by-append f (x ∷ []) xs in omega arith

pub filter_none : {A : Type 0} (p : A → Bool) (xs : List A) → ((x : A) → Among xs x → p x ≡ true → ⊥) → filter p xs ≡ []
filter_none p [] f = refl
filter_none p (x ∷ xs) f = go (p x) refl (filter_none p xs (λ y a. f y (inr a)))
  where
    go : (b : Bool) → p x ≡ b → filter p xs ≡ [] → cond b (x ∷ filter p xs) (filter p xs) ≡ []
    go true e rest = absurd (f x (inl refl) e)
    go false e rest = rest

pub no_marker : (opened : List Pass) (marker : ℕ) → list_any is_marker opened ≡ false → list_any (same_pass (Marker marker)) opened ≡ false
no_marker [] marker e = refl
no_marker (Lane l ∷ opened) marker e = no_marker opened marker e
no_marker (Marker m ∷ opened) marker e = absurd cc
no_marker (Collector ∷ opened) marker e = no_marker opened marker e

pub not_true : (b : Bool) → not b ≡ true → b ≡ false
not_true false e = refl
not_true true e = absurd cc

pub marking_or_not : (phase : Phase) → (phase ≡ Marking) ⊎ (phase ≢ Marking)
marking_or_not Marking = inl refl
marking_or_not Idle = inr (λ e. cc)
marking_or_not Gathering = inr (λ e. cc)

pub grey_empty : (phase : Phase) (m : Marks) (units : List (List Name)) → (phase ≡ Marking → filter (is_grey m) units ≡ []) → grey_in phase m units ≡ []
grey_empty Marking m units f = f refl
grey_empty Idle m units f = refl
grey_empty Gathering m units f = refl
