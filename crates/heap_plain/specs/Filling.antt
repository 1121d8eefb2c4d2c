-- Places of a list that are written.
use Rattle.std.specs.Prelude.{◌≡◌, ◌≢◌, ℕ, ◌+◌, ◌*◌, ◌<◌, ◌≤◌, ◌⊎◌, List, length, get_or}

-- count places from `from` on have the values of f, and the others are as they were
pub record Filled {A : Type 0} (old new : List A) (from count : ℕ) (f : ℕ → A) : Type 0 where
  pub len : length new ≡ length old
  pub inside : (k : ℕ) (d : A) → k < count → get_or new (from + k) d ≡ f k
  pub outside : (i : ℕ) (d : A) → (i < from) ⊎ (from + count ≤ i) → get_or new i d ≡ get_or old i d

-- the places at 0, .., at (count - 1) have the values of f, and the others are as they were
pub record FilledAt {A : Type 0} (old new : List A) (at : ℕ → ℕ) (count : ℕ) (f : ℕ → A) : Type 0 where
  pub len : length new ≡ length old
  pub inside : (k : ℕ) (d : A) → k < count → get_or new (at k) d ≡ f k
  pub outside : (i : ℕ) (d : A) → ((k : ℕ) → k < count → at k ≢ i) → get_or new i d ≡ get_or old i d

-- the rows of so many slots at 0, .., at (count - 1) have one value, and the others are as they were
pub record RowsFilled {A : Type 0} (old new : List A) (at : ℕ → ℕ) (count slots : ℕ) (value : A) : Type 0 where
  pub len : length new ≡ length old
  pub inside : (k slot : ℕ) (d : A) → k < count → slot < slots → get_or new (at k * slots + slot) d ≡ value
  pub outside : (i slot : ℕ) (d : A) → slot < slots → ((k : ℕ) → k < count → at k ≢ i) → get_or new (i * slots + slot) d ≡ get_or old (i * slots + slot) d
