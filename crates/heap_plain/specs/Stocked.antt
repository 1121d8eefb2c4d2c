-- The free indexes of lanes.
use Rattle.std.specs.Prelude.{◌≡◌, ℕ, ◌+◌, ◌*◌, ◌<◌, ◌≤◌, List, [], ◌∷◌, ◌++◌, length, get_or, drop, zero, suc}

-- the free indexes of a lane, in the order in which they are taken, and how many there may be
pub record Stocked : Type 0 where
  pub room : ℕ
  pub free : List ℕ

-- the places behind the ones that are taken have them
abbrev pub stocked : List ℕ → ℕ → Stocked
stocked places taken = record { room = length places; free = drop taken places }

-- where a lane has none
abbrev pub no_stock : Stocked
no_stock = record { room = 0; free = [] }

-- the free indexes of a lane among those of all lanes
abbrev pub free_of : List Stocked → ℕ → List ℕ
free_of stocks lane = (get_or stocks lane no_stock).free

-- so many are taken, and one is given back
abbrev pub taken : Stocked → ℕ → Stocked
taken s count = record s { free = drop count s.free }

abbrev pub given : Stocked → ℕ → Stocked
given s i = record s { free = i ∷ s.free }

-- ---- full stocks

-- so many numbers from `first` on
abbrev pub rising : ℕ → ℕ → List ℕ
rising first zero = []
rising first (suc count) = rising first count ++ (first + count) ∷ []

-- for each of so many lanes all indexes of its range
abbrev pub full_stocks : ℕ → ℕ → List Stocked
full_stocks quota zero = []
full_stocks quota (suc lanes) = full_stocks quota lanes ++ record { room = quota; free = rising (lanes * quota) quota } ∷ []

-- ---- taking

-- the index that is taken after k others
abbrev pub popped : List ℕ → ℕ → ℕ
popped free k = get_or free k 0

-- the first count of these free indexes are different places of a list of this length
pub record CanPop (free : List ℕ) (count size : ℕ) : Type 0 where
  pub enough : count ≤ length free
  pub places : (k : ℕ) → k < count → popped free k < size
  pub once : (j k : ℕ) → j < count → k < count → popped free j ≡ popped free k → j ≡ k
