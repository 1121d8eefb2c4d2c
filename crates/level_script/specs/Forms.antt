-- The forms of words.
use Rattle.std.specs.Prelude.{ℕ, ◌==◌, ◌-◌, ◌^◌, Bool, false, not, ◌&&◌, ◌||◌, nat_le, nat_lt, List, [], ◌∷◌, map, length, take, drop, slice_index, codes, Option, Some, None, if◌then◌else◌}
use Rattle.std.specs.List.{list_all, position_or_len}
use Rattle.std.specs.Str.{bytes_eq}
use Rattle.std.specs.Char.{is_ascii_digit, is_ascii_alphabetic}
use Rattle.std.specs.Int.Digits.{number_from_digits}
use Rattle.level_script.specs.declared.operand.Place.{Place}

-- an ASCII letter or `_`
abbrev pub begins_identifier : ℕ → Bool
begins_identifier b = is_ascii_alphabetic b || b == 95

-- an ASCII letter, a digit or `_`
abbrev pub continues_identifier : ℕ → Bool
continues_identifier b = is_ascii_alphabetic b || is_ascii_digit b || b == 95

-- an identifier, of 1 to 64 bytes
abbrev pub is_identifier : List ℕ → Bool
is_identifier [] = false
is_identifier (b ∷ bs) = begins_identifier b && list_all continues_identifier bs && nat_lt (length bs) 64

-- an identifier
abbrev pub identifier_of : List ℕ → Option (List ℕ)
identifier_of word = if is_identifier word then Some word else None

-- an identifier that names a variable: `none` names none
abbrev pub variable_of : List ℕ → Option (List ℕ)
variable_of word = if bytes_eq word (codes "none") then None else identifier_of word

-- made of digits alone
abbrev pub is_digits : List ℕ → Bool
is_digits word = list_all is_ascii_digit word

-- the number that digits write
abbrev pub written : List ℕ → ℕ
written digits = number_from_digits 10 (map (λ b. b - 48) digits)

-- the number of a word of digits: at most 20 of them, and below 2^64; else it is out of its range
abbrev pub number_of : List ℕ → Option ℕ
number_of digits = if nat_le (length digits) 20 && nat_lt (written digits) (2 ^ 64) then Some (written digits) else None

-- a line whose first word begins so does nothing
abbrev pub is_comment : List ℕ → Bool
is_comment [] = false
is_comment (b ∷ bs) = b == 35

-- ---- spots

-- how many bytes in front continue an identifier
abbrev pub front_length : List ℕ → ℕ
front_length word = position_or_len (λ b. not (continues_identifier b)) word

-- these bytes, and what stands behind them
abbrev pub front : List ℕ → List ℕ
front word = take (front_length word) word

abbrev pub behind : List ℕ → List ℕ
behind word = drop (front_length word) word

-- the number in front of a last `]`
abbrev pub bracketed : List ℕ → Option (Option ℕ)
bracketed word =
    if slice_index word (length word - 1) == 93 && nat_lt 1 (length word) && is_digits (take (length word - 1) word)
    then Some (number_of (take (length word - 1) word))
    else None

-- the element that is told behind a field: 0 where nothing stands there, or the index in brackets
abbrev pub element_of : List ℕ → Option (Option ℕ)
element_of [] = Some (Some 0)
element_of (b ∷ bs) = if b == 91 then bracketed bs else None

-- an element of a field of a variable, if all of them are there
abbrev pub placed : List ℕ → Option (List ℕ) → Option (Option ℕ) → Option Place
placed var None element = None
placed var (Some field) None = None
placed var (Some field) (Some element) = Some (record { var = var; field = field; element = element })

-- behind the variable stands a dot, then a field and its element
abbrev pub spot_behind : Option (List ℕ) → List ℕ → Option Place
spot_behind None rest = None
spot_behind (Some var) [] = None
spot_behind (Some var) (b ∷ bs) = if b == 46 then placed var (identifier_of (front bs)) (element_of (behind bs)) else None

-- a spot: `V.F`, or `V.F[I]`
abbrev pub spot_of : List ℕ → Option Place
spot_of word = spot_behind (variable_of (front word)) (behind word)

-- ---- members of clusters

-- a variable and a class, if both are there
abbrev pub both_named : List ℕ → Option (List ℕ) → Option (List ℕ × List ℕ)
both_named var None = None
both_named var (Some class) = Some (var, class)

-- behind the variable stands a colon, then a class
abbrev pub member_behind : Option (List ℕ) → List ℕ → Option (List ℕ × List ℕ)
member_behind None rest = None
member_behind (Some var) [] = None
member_behind (Some var) (b ∷ bs) = if b == 58 then both_named var (identifier_of bs) else None

-- a member of a cluster: `V:CLASS`
abbrev pub member_of : List ℕ → Option (List ℕ × List ℕ)
member_of word = member_behind (variable_of (front word)) (behind word)
