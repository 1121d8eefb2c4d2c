-- Elements of lists without repetition, by their places.
use Rattle.std.proofs.Common.{◌≡◌, ◌≢◌, ℕ, ◌+◌, ◌<◌, ◌≤◌, ◌⊎◌, inl, inr, zero, suc, refl, sym, ap, subst, arith, List, [], ◌∷◌, get_or, drop, length, length-append}
use Rattle.std.proofs.Math.Logic.{dite}
use Rattle.std.proofs.Math.Decide.{ℕ_discrete}
use Rattle.world_model.proofs.ListFacts.{Among, among_append, among_left, among_right}
use Rattle.heap_plain.specs.Lists.{Distinct}
use Rattle.heap_plain.specs.Stocked.{rising}
use Rattle.heap_plain.proofs.MarkSteps.{distinct_snoc}

pub get_or_among : (xs : List ℕ) (k : ℕ) → k < length xs → Among xs (get_or xs k 0)
get_or_among [] k h = absurd (omega arith)
get_or_among (x ∷ xs) zero h = inl refl
get_or_among (x ∷ xs) (suc k) h = inr (get_or_among xs k (omega arith))

pub among_drop : (n : ℕ) (xs : List ℕ) (i : ℕ) → Among (drop n xs) i → Among xs i
among_drop zero xs i a = a
among_drop (suc n) [] i a = a
among_drop (suc n) (x ∷ xs) i a = inr (among_drop n xs i a)

-- different places have different elements
pub one_place : (xs : List ℕ) (j k : ℕ) → Distinct xs → j < length xs → k < length xs → get_or xs j 0 ≡ get_or xs k 0 → j ≡ k
one_place [] j k d a b e = absurd (omega arith)
one_place (x ∷ xs) zero zero d a b e = refl
one_place (x ∷ xs) zero (suc k) d a b e = absurd (d.0 (subst (λ (y : ℕ). Among xs y) (sym e) (get_or_among xs k (omega arith))))
one_place (x ∷ xs) (suc j) zero d a b e = absurd (d.0 (subst (λ (y : ℕ). Among xs y) e (get_or_among xs j (omega arith))))
one_place (x ∷ xs) (suc j) (suc k) d a b e = ap (λ (n : ℕ). suc n) (one_place xs j k d.1 (omega arith) (omega arith) e)

-- the first ones are not among the others
pub first_out : (xs : List ℕ) (n j : ℕ) → Distinct xs → j < n → Among (drop n xs) (get_or xs j 0) → ⊥
first_out xs zero j d b a = absurd (omega arith)
first_out [] (suc n) j d b a = a
first_out (x ∷ xs) (suc n) zero d b a = d.0 (among_drop n xs x a)
first_out (x ∷ xs) (suc n) (suc j) d b a = first_out xs n j d.1 (omega arith) a

-- an element is one of the first, or among the others
pub first_or : (xs : List ℕ) (n i : ℕ) → Among xs i → ((k : ℕ) × (k < n) × (get_or xs k 0 ≡ i)) ⊎ Among (drop n xs) i
first_or xs zero i a = inr a
first_or [] (suc n) i a = absurd a
first_or (x ∷ xs) (suc n) i (inl e) = inl (0, omega arith, e)
first_or (x ∷ xs) (suc n) i (inr a) = go (first_or xs n i a)
  where
    go : ((k : ℕ) × (k < n) × (get_or xs k 0 ≡ i)) ⊎ Among (drop n xs) i → ((k : ℕ) × (k < suc n) × (get_or (x ∷ xs) k 0 ≡ i)) ⊎ Among (drop n xs) i
    go (inl r) = inl (suc r.0, omega (arith, r.1), r.2)
    go (inr b) = inr b

-- ---- rising numbers

pub length-rising : (first count : ℕ) → length (rising first count) ≡ count
length-rising first zero = refl
length-rising first (suc count) = omega (arith, length-rising first count, length-append (rising first count) ((first + count) ∷ []))

pub rising_range : (first count i : ℕ) → Among (rising first count) i → (first ≤ i) × (i < first + count)
rising_range first zero i a = absurd a
rising_range first (suc count) i a = go (rising_range first count i) (among_append (rising first count) ((first + count) ∷ []) i a)
  where
    go : (Among (rising first count) i → (first ≤ i) × (i < first + count)) → Among (rising first count) i ⊎ ((first + count ≡ i) ⊎ ⊥) → (first ≤ i) × (i < first + suc count)
    go low (inl a) = let t = low a in (t.0, omega (arith, t.1))
    go low (inr (inl e)) = (omega arith, omega arith)
    go low (inr (inr a)) = absurd a

pub range_rising : (first count i : ℕ) → first ≤ i → i < first + count → Among (rising first count) i
range_rising first zero i low high = absurd (omega arith)
range_rising first (suc count) i low high = dite (ℕ_discrete (first + count) i)
    (λ (e : first + count ≡ i). among_right (rising first count) ((first + count) ∷ []) i (inl e))
    (λ (ne : first + count ≢ i). among_left (rising first count) ((first + count) ∷ []) i (range_rising first count i low (omega arith)))

pub rising_once : (first count : ℕ) → Distinct (rising first count)
rising_once first zero = tt
rising_once first (suc count) = distinct_snoc (rising first count) (first + count) (rising_once first count) (λ a. let t = rising_range first count (first + count) a in absurd (omega (arith, t.1)))
