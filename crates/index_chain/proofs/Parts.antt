-- Lists without repeats, and their parts.
use Rattle.std.proofs.Common.{◌≡◌, ℕ, ◌==◌, Bool, true, false, ◌||◌, List, [], ◌∷◌, ◌++◌, take, drop, refl, sym, ap, ◌∙◌, subst, inl, inr, ◌⊎◌}
use Rattle.std.specs.List.{AllByRecursion}
use Rattle.std.proofs.lemmas.List.{take-append-drop}
use Rattle.std.proofs.lemmas.Bool.{eqb-true, eq-eqb}
use Rattle.index_chain.specs.Walks.{has, AreDistinct, AreApart}

-- what is not one of two is neither
pub or_false : (a b : Bool) → (a || b) ≡ false → (a ≡ false) × (b ≡ false)
or_false true b h = absurd cc
or_false false b h = (refl, h)

pub or_true : (a b : Bool) → (a || b) ≡ true → (a ≡ true) ⊎ (b ≡ true)
or_true true b h = inl refl
or_true false b h = inr h

not_both : (b : Bool) → b ≡ true → b ≡ false → ⊥
not_both b t f = let wrong : true ≡ false = sym t ∙ f in cc

pub not_true : (b : Bool) → (b ≡ true → ⊥) → b ≡ false
not_true true h = absurd (h refl)
not_true false h = refl

-- ---- one list behind another

pub has_append : (is js : List ℕ) (i : ℕ) → has (is ++ js) i ≡ (has is i || has js i)
has_append [] js i = refl
has_append (j ∷ is) js i = go (j == i) (has_append is js i)
  where
    go : (b : Bool) → has (is ++ js) i ≡ (has is i || has js i) → (b || has (is ++ js) i) ≡ ((b || has is i) || has js i)
    go true e = refl
    go false e = e

pub all_append : (P : ℕ → Type 0) (is js : List ℕ) → AllByRecursion P is → AllByRecursion P js → AllByRecursion P (is ++ js)
all_append P [] js h k = k
all_append P (i ∷ is) js h k = (h.0, all_append P is js h.1 k)

pub all_parts : (P : ℕ → Type 0) (is js : List ℕ) → AllByRecursion P (is ++ js) → AllByRecursion P is × AllByRecursion P js
all_parts P [] js h = (tt, h)
all_parts P (i ∷ is) js h = let rest = all_parts P is js h.1 in ((h.0, rest.0), rest.1)

-- the first item is the one that is in front
pub head_has : (i : ℕ) (is : List ℕ) → has (i ∷ is) i ≡ true
head_has i is = ap (λ b. b || has is i) (eq-eqb i i refl)

pub more : (a b : Bool) → b ≡ true → (a || b) ≡ true
more true b h = refl
more false b h = h

pub distinct_append : (is js : List ℕ) → AreDistinct is → AreDistinct js → AreApart is js → AreDistinct (is ++ js)
unfolding AreDistinct
distinct_append [] js d e apart = e
distinct_append (i ∷ is) js d e apart = (
  has_append is js i ∙ ap (λ b. b || has js i) d.0 ∙ apart i (head_has i is),
  distinct_append is js d.1 e (λ k h. apart k (more (i == k) (has is k) h)),
)

pub distinct_parts : (is js : List ℕ) → AreDistinct (is ++ js) → AreDistinct is × AreDistinct js × AreApart is js
unfolding AreDistinct
distinct_parts [] js d = (tt, d, λ i h. absurd cc)
distinct_parts (i ∷ is) js d =
    let rest = distinct_parts is js d.1 in
    let none = or_false (has is i) (has js i) (sym (has_append is js i) ∙ d.0) in
    ((none.0, rest.0), rest.1, λ k h. either k none.1 rest.2 (or_true (i == k) (has is k) h))
  where
    either : (k : ℕ) → has js i ≡ false → AreApart is js → ((i == k) ≡ true) ⊎ (has is k ≡ true) → has js k ≡ false
    either k none apart (inl here) = subst (λ (n : ℕ). has js n ≡ false) (eqb-true i k here) none
    either k none apart (inr there) = apart k there

-- ---- the first items and the rest

pub split : (n : ℕ) (is : List ℕ) → take n is ++ drop n is ≡ is
split n is = take-append-drop n is

pub all_split : (P : ℕ → Type 0) (n : ℕ) (is : List ℕ) → AllByRecursion P is → AllByRecursion P (take n is) × AllByRecursion P (drop n is)
all_split P n is h = all_parts P (take n is) (drop n is) (subst (AllByRecursion P) (sym (split n is)) h)

pub distinct_split : (n : ℕ) (is : List ℕ) → AreDistinct is → AreDistinct (take n is) × AreDistinct (drop n is) × AreApart (take n is) (drop n is)
distinct_split n is d = distinct_parts (take n is) (drop n is) (subst AreDistinct (sym (split n is)) d)
