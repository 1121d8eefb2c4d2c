-- The variables of a lane, as lists of names and of numbers.
use Rattle.std.specs.Prelude.{◌≡◌, ℕ, ◌==◌, ◌≤◌, Bool, true, not, ◌&&◌, List, [], ◌∷◌, ◌++◌, Option, position, slice_index_or, if◌then◌else◌}
use Rattle.std.specs.List.{list_any, position_or_len}
use Rattle.std.specs.Str.{bytes_eq}

-- the number of a name that is there
unfoldable pub number_of_name : List (List ℕ) → List ℕ → Option ℕ
number_of_name names name = position (bytes_eq name) names

-- the number that a name has once it is there: its own, or the next
unfoldable pub number_in : List (List ℕ) → List ℕ → ℕ
number_in names name = position_or_len (bytes_eq name) names

-- the names with one that may be new
unfoldable pub with_name : List (List ℕ) → List ℕ → List (List ℕ)
with_name names name = if list_any (bytes_eq name) names then names else names ++ name ∷ []

-- the number is among them
abbrev pub has_number : List ℕ → ℕ → Bool
has_number numbers number = list_any (λ n. number == n) numbers

-- the numbers with one that may be new
abbrev pub with_number : List ℕ → ℕ → List ℕ
with_number numbers number = if has_number numbers number then numbers else numbers ++ number ∷ []

-- no two of them are the same
abbrev pub all_differ : {A : Type 0} → (A → A → Bool) → List A → Bool
all_differ same [] = true
all_differ same (x ∷ xs) = not (list_any (same x) xs) && all_differ same xs

-- ---- rounds, which tell for each number when it came last

-- the number came in this round
abbrev pub came_in : List ℕ → ℕ → ℕ → Bool
came_in rounds round n = slice_index_or rounds n 0 == round

-- no number came in a later round
abbrev pub AreUpTo : ℕ → List ℕ → Type 0
AreUpTo round rounds = (n : ℕ) → slice_index_or rounds n 0 ≤ round

-- these are the numbers that came in this round
abbrev pub CameIn : List ℕ → ℕ → List ℕ → Type 0
CameIn rounds round numbers = (n : ℕ) → came_in rounds round n ≡ has_number numbers n

-- the rounds tell the same of each number
abbrev pub AreSame : List ℕ → List ℕ → Type 0
AreSame old new = (n : ℕ) → slice_index_or new n 0 ≡ slice_index_or old n 0
