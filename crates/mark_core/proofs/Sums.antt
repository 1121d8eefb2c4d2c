-- Sums over the first numbers.
use Rattle.std.proofs.Common.{◌≡◌, ℕ, zero, suc, ◌+◌, ◌<◌, ◌≤◌, sym, subst, inl, inr, arith, Bool, cond, true, false, ◌⊎◌}
use Rattle.mark_core.specs.Changes.{set_at}
use Rattle.mark_core.specs.Machine.{count_below}
use Rattle.mark_core.proofs.Tools.{same_or_not, set_here, set_there, count-above}

pub sum_below : (ℕ → ℕ) → ℕ → ℕ
sum_below f zero = 0
sum_below f (suc n) = f n + sum_below f n

pub sum_le : (f g : ℕ → ℕ) (n : ℕ) → ((i : ℕ) → f i ≤ g i) → sum_below f n ≤ sum_below g n
unfolding sum_below
sum_le f g zero le = omega arith
sum_le f g (suc n) le = let rest = sum_le f g n le in let here = le n in omega arith

-- the sum falls where one part does and no other rises
pub sum_less : (f g : ℕ → ℕ) (n i : ℕ) → i < n → ((j : ℕ) → f j ≤ g j) → f i < g i → sum_below f n < sum_below g n
unfolding sum_below
sum_less f g zero i lt le less = absurd (omega arith)
sum_less f g (suc n) i lt le less = go (same_or_not i n) (λ far. sum_less f g n i far le less)
  where
    go : (i ≡ n) ⊎ (i ≡ n → ⊥) → (i < n → sum_below f n < sum_below g n) → f n + sum_below f n < g n + sum_below g n
    go (inl e) next = let rest = sum_le f g n le in let here : f n < g n = subst (λ (k : ℕ). f k < g k) e less in omega arith
    go (inr o) next = let rest = next (omega (arith, o)) in let here = le n in omega arith

-- with one more number the count rises by one at most
pub count_one : (f : ℕ → Bool) (i n : ℕ) → count_below (set_at f i true) n ≤ suc (count_below f n)
unfolding count_below
count_one f i zero = omega arith
count_one f i (suc n) = go (same_or_not n i) (count_one f i n)
  where
    here : (b : Bool) → cond true (suc (count_below f n)) (count_below f n) ≤ suc (cond b (suc (count_below f n)) (count_below f n))
    here true = omega arith
    here false = omega arith

    there : (a b : Bool) → a ≡ b → count_below (set_at f i true) n ≤ suc (count_below f n)
        → cond a (suc (count_below (set_at f i true) n)) (count_below (set_at f i true) n) ≤ suc (cond b (suc (count_below f n)) (count_below f n))
    there true true e le = omega arith
    there false false e le = le
    there true false e le = absurd cc
    there false true e le = absurd cc

    go : (n ≡ i) ⊎ (n ≡ i → ⊥) → count_below (set_at f i true) n ≤ suc (count_below f n) → count_below (set_at f i true) (suc n) ≤ suc (count_below f (suc n))
    go (inl e) le =
        let on = set_here f i true n e in
        let same = count-above f i true n (omega (arith, e)) in
        subst (λ (b : Bool). cond b (suc (count_below (set_at f i true) n)) (count_below (set_at f i true) n) ≤ suc (cond (f n) (suc (count_below f n)) (count_below f n))) (sym on)
        (subst (λ (k : ℕ). suc k ≤ suc (cond (f n) (suc (count_below f n)) (count_below f n))) (sym same) (here (f n)))
    go (inr o) le = there (set_at f i true n) (f n) (set_there f i true n o) le
