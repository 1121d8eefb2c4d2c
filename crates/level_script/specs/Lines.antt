-- How an input is cut into lines, and a line into words.
use Rattle.std.specs.Prelude.{◌≡◌, ℕ, ◌==◌, ◌-◌, Bool, true, false, ◌||◌, List, [], ◌∷◌, map, filter, length, take, slice_index, if◌then◌else◌}
use Rattle.std.specs.List.{slice_split}

-- a last piece that is empty is no line
abbrev pub last_line : List ℕ → List (List ℕ)
last_line [] = []
last_line (b ∷ bs) = (b ∷ bs) ∷ []

-- the lines among the pieces
abbrev pub lines_among : List (List ℕ) → List (List ℕ)
lines_among [] = []
lines_among (piece ∷ []) = last_line piece
lines_among (piece ∷ next ∷ pieces) = piece ∷ lines_among (next ∷ pieces)

-- one carriage return at the end of a line is dropped
abbrev pub without_return : List ℕ → List ℕ
without_return line = if slice_index line (length line - 1) == 13 then take (length line - 1) line else line

-- the lines of an input, which is cut at each line feed
unfoldable pub input_lines : List ℕ → List (List ℕ)
input_lines bytes = map without_return (lines_among (slice_split (λ b. b == 10) bytes))

-- a space or a tab
abbrev pub is_blank : ℕ → Bool
is_blank b = b == 32 || b == 9

-- a piece between blanks that is not empty
abbrev pub is_word : List ℕ → Bool
is_word [] = false
is_word (b ∷ bs) = true

-- the words of a line, which one or more blanks separate
unfoldable pub line_words : List ℕ → List (List ℕ)
line_words line = filter is_word (slice_split is_blank line)

-- the list is empty, or begins with no blank
abbrev pub BeginsWord : List ℕ → Type 0
BeginsWord [] = Unit {0}
BeginsWord (b ∷ bs) = is_blank b ≡ false

-- no word is left
abbrev pub is_none : List (List ℕ) → Bool
is_none [] = true
is_none (w ∷ ws) = false
