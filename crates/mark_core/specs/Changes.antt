-- Functions with one value changed, and tests on lists of numbers.
use Rattle.std.specs.Prelude.{ℕ, ◌==◌, Bool, true, false, ◌||◌, if◌then◌else◌, List, [], ◌∷◌}

-- the function with one value changed
abbrev pub set_at : {A : Type 0} → (ℕ → A) → ℕ → A → ℕ → A
set_at f i value j = if j == i then value else f j

-- the table with the value at one place changed
abbrev pub set_in : {A : Type 0} → (ℕ → ℕ → A) → ℕ → ℕ → A → ℕ → ℕ → A
set_in f i k value j = if j == i then set_at (f i) k value else f j

-- whether the list has this number
abbrev pub has : List ℕ → ℕ → Bool
has [] u = false
has (x ∷ xs) u = (u == x) || has xs u

abbrev pub is_empty : {A : Type 0} → List A → Bool
is_empty [] = true
is_empty (x ∷ xs) = false
