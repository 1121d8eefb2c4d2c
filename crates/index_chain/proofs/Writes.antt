-- The writes of the calls.
use Rattle.std.proofs.Common.{◌≡◌, ℕ, zero, suc, ◌+◌, List, [], ◌∷◌, length, ap, arith, refl, ◌<◌, Option, Some, slice_get}
use Rattle.index_chain.specs.Calls.{end_write, join_write}

-- the write to the last item
pub end_write-last : (is : List ℕ) (to : Option ℕ) (k last : ℕ) → length is ≡ k + 1 → slice_get is k ≡ Some last → end_write is to ≡ (last, to) ∷ []
unfolding end_write
end_write-last [] to k last l at = absurd cc
end_write-last (i ∷ []) to zero last l at = let same : i ≡ last = cc in ap (λ (j : ℕ). (j, to) ∷ []) same
end_write-last (i ∷ []) to (suc k) last l at = absurd cc
end_write-last (i ∷ j ∷ is) to zero last l at = absurd (omega arith)
end_write-last (i ∷ j ∷ is) to (suc k) last l at = end_write-last (j ∷ is) to k last (omega arith) at

pub end_write-none : (is : List ℕ) (to : Option ℕ) → length is ≡ 0 → end_write is to ≡ []
unfolding end_write
end_write-none [] to none = refl
end_write-none (i ∷ is) to none = absurd (omega arith)

pub join_write-some : (front back : List ℕ) (to : Option ℕ) → 0 < length back → join_write front back to ≡ end_write front to
join_write-some front [] to some = absurd (omega arith)
join_write-some front (j ∷ js) to some = refl

pub join_write-none : (front back : List ℕ) (to : Option ℕ) → length front ≡ 0 → join_write front back to ≡ []
join_write-none front [] to none = refl
join_write-none front (j ∷ js) to none = end_write-none front to none

pub join_write-one : (front back : List ℕ) (to : Option ℕ) → length back ≡ 0 → join_write front back to ≡ []
join_write-one front [] to none = refl
join_write-one front (j ∷ js) to none = absurd (omega arith)
