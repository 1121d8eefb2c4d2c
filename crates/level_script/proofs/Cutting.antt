-- Cutting an input into lines, and a line into words.
use Rattle.std.proofs.Common.{◌≡◌, ℕ, ◌+◌, ◌<◌, ◌≤◌, ◌==◌, List, [], ◌∷◌, refl, sym, ap, ◌∙◌, subst, Bool, true, false, not, cond, map, filter, length, take, drop, arith, suc, slice_index, ◌-◌, Some, None}
use Rattle.std.specs.Prelude.{nat_lt, position}
use Rattle.std.specs.List.{slice_split, onto_first, position_or_len, prefix_len}
use Rattle.std.proofs.lemmas.Bool.{ltb-true}
use Rattle.std.proofs.lemmas.Str.{IsAscii-take}
use Rattle.std.specs.Str.{IsAscii}
use Rattle.std.proofs.lemmas.List.Splits.{slice_split_first}
use Rattle.std.proofs.lemmas.List.Sums.{prefix_len-le-length}
use Rattle.level_script.specs.Lines.{input_lines, lines_among, without_return, line_words, is_word, is_blank, BeginsWord}

-- ---- places

-- a choice that is there
some_is : (b : Bool) (n i : ℕ) → cond b (Some n) None ≡ Some i → (b ≡ true) × (n ≡ i)
some_is true n i e = (refl, cc)
some_is false n i e = absurd (cc)

-- a choice that is not there
none_is : (b : Bool) (n : ℕ) → cond b (Some n) None ≡ None → b ≡ false
none_is true n e = absurd (cc)
none_is false n e = refl

-- the place that a position is
pub at_some : (p : ℕ → Bool) (xs : List ℕ) (i : ℕ) → position p xs ≡ Some i → (position_or_len p xs ≡ i) × (i < length xs)
at_some p xs i e =
    let h = some_is (nat_lt (position_or_len p xs) (length xs)) (position_or_len p xs) i e in
    (h.1, (let below : position_or_len p xs < length xs = ltb-true _ _ h.0 in let P : ℕ → Type 0 = λ n. n < length xs in subst P h.1 below))

-- where there is no position, all stand in front
pub at_none : (p : ℕ → Bool) (xs : List ℕ) → position p xs ≡ None → position_or_len p xs ≡ length xs
at_none p xs e =
    let no = none_is (nat_lt (position_or_len p xs) (length xs)) (position_or_len p xs) e in
    let most : position_or_len p xs ≤ length xs = prefix_len-le-length (λ x. not (p x)) xs in
    grind (arith, no, most)

-- ---- parts

-- one more byte that does not pass
whole_step : (p : ℕ → Bool) (x : ℕ) (xs : List ℕ) (b : Bool) → (length xs ≤ prefix_len (λ y. not (p y)) xs → slice_split p xs ≡ xs ∷ [])
    → length (x ∷ xs) ≤ cond (not b) (1 + prefix_len (λ y. not (p y)) xs) 0
    → cond b ([] ∷ slice_split p xs) (onto_first x (slice_split p xs)) ≡ (x ∷ xs) ∷ []
whole_step p x xs true ih h = absurd (omega (arith, h))
whole_step p x xs false ih h = ap (onto_first x) (ih (omega (arith, h)))

-- where no byte passes, the list is the one part
split_whole : (p : ℕ → Bool) (xs : List ℕ) → length xs ≤ position_or_len p xs → slice_split p xs ≡ xs ∷ []
split_whole p [] h = refl
split_whole p (x ∷ xs) h = whole_step p x xs (p x) (split_whole p xs) h

-- a piece before others is a line
among_onto : (piece : List ℕ) (x : ℕ) (ps : List (List ℕ)) → lines_among (piece ∷ onto_first x ps) ≡ piece ∷ lines_among (onto_first x ps)
among_onto piece x [] = refl
among_onto piece x (p ∷ ps) = refl

-- a piece before the parts of a list with one more byte is a line
among_cond : (piece : List ℕ) (x : ℕ) (b : Bool) (ps : List (List ℕ)) → lines_among (piece ∷ cond b ([] ∷ ps) (onto_first x ps)) ≡ piece ∷ lines_among (cond b ([] ∷ ps) (onto_first x ps))
among_cond piece x true ps = refl
among_cond piece x false ps = among_onto piece x ps

-- a piece before the parts of a list is a line
among_more : (p : ℕ → Bool) (piece xs : List ℕ) → lines_among (piece ∷ slice_split p xs) ≡ piece ∷ lines_among (slice_split p xs)
among_more p piece [] = refl
among_more p piece (x ∷ xs) = among_cond piece x (p x) (slice_split p xs)

-- the first part ends at the first place
split_first : (p : ℕ → Bool) (xs : List ℕ) (i : ℕ) → position p xs ≡ Some i → slice_split p xs ≡ take i xs ∷ slice_split p (drop (i + 1) xs)
split_first p xs i e =
    let h = at_some p xs i e in
    let P : ℕ → Type 0 = λ n. slice_split p xs ≡ take n xs ∷ slice_split p (drop (n + 1) xs) in
    let Q : ℕ → Type 0 = λ n. n < length xs in
    subst P h.0 (slice_split_first p xs 0 (subst Q (sym h.0) h.1))

-- ---- lines

-- an empty input has no line
pub lines_empty : (xs : List ℕ) → (length xs == 0) ≡ true → input_lines xs ≡ []
unfolding input_lines
lines_empty [] e = refl
lines_empty (x ∷ xs) e = absurd (grind (arith, e))

-- an input goes on after its first line feed
pub lines_first : (xs : List ℕ) (i : ℕ) → position (λ b. b == 10) xs ≡ Some i → input_lines xs ≡ without_return (take i xs) ∷ input_lines (drop (i + 1) xs)
unfolding input_lines
lines_first xs i e =
    ap (λ ps. map without_return (lines_among ps)) (split_first (λ b. b == 10) xs i e)
    ∙ ap (map without_return) (among_more (λ b. b == 10) (take i xs) (drop (i + 1) xs))

-- an input with no line feed is one line
pub lines_whole : (xs : List ℕ) → (length xs == 0) ≡ false → position (λ b. b == 10) xs ≡ None → input_lines xs ≡ without_return xs ∷ input_lines []
unfolding input_lines
lines_whole [] some e = absurd (cc)
lines_whole (x ∷ xs) some e = ap (λ ps. map without_return (lines_among ps)) (split_whole (λ b. b == 10) (x ∷ xs) (omega (arith, at_none (λ b. b == 10) (x ∷ xs) e)))

-- ---- words

-- one more blank, or none
skip_step : (x : ℕ) (xs : List ℕ) (n : ℕ) (b : Bool) → is_blank x ≡ b → line_words (drop n xs) ≡ line_words xs → line_words (drop (cond (not (not b)) (1 + n) 0) (x ∷ xs)) ≡ line_words (x ∷ xs)
unfolding line_words
skip_step x xs n true e ih =
    let more : 1 + n ≡ suc n = omega arith in
    ap (λ k. line_words (drop k (x ∷ xs))) more ∙ ih ∙ sym (ap (λ c. filter is_word (cond c ([] ∷ slice_split is_blank xs) (onto_first x (slice_split is_blank xs)))) e)
skip_step x xs n false e ih = refl

-- blanks in front stand before no word
pub words_skip : (xs : List ℕ) → line_words (drop (position_or_len (λ b. not (is_blank b)) xs) xs) ≡ line_words xs
words_skip [] = refl
words_skip (x ∷ xs) = skip_step x xs (position_or_len (λ b. not (is_blank b)) xs) (is_blank x) refl (words_skip xs)

-- after one more blank, or none, a word begins
begins_step : (x : ℕ) (xs : List ℕ) (n : ℕ) (b : Bool) → is_blank x ≡ b → BeginsWord (drop n xs) → BeginsWord (drop (cond (not (not b)) (1 + n) 0) (x ∷ xs))
begins_step x xs n true e ih =
    let more : suc n ≡ 1 + n = omega arith in
    let P : ℕ → Type 0 = λ k. BeginsWord (drop k (x ∷ xs)) in
    subst P more ih
begins_step x xs n false e ih = e

-- after the blanks in front a word begins, or all is over
pub begins_skip : (xs : List ℕ) → BeginsWord (drop (position_or_len (λ b. not (is_blank b)) xs) xs)
begins_skip [] = tt
begins_skip (x ∷ xs) = begins_step x xs (position_or_len (λ b. not (is_blank b)) xs) (is_blank x) refl (begins_skip xs)

-- what stands before the first blank is not empty
take_is_word : (xs : List ℕ) (i : ℕ) → BeginsWord xs → position is_blank xs ≡ Some i → is_word (take i xs) ≡ true
take_is_word [] i begins e = absurd (cc)
take_is_word (x ∷ xs) i begins e =
    let n = prefix_len (λ y. not (is_blank y)) xs in
    let is : suc n ≡ i = (let more : suc n ≡ 1 + n = omega arith in more ∙ ap (λ b. cond (not b) (1 + n) 0) (sym begins) ∙ (at_some is_blank (x ∷ xs) i e).0) in
    ap (λ k. is_word (take k (x ∷ xs))) (sym is)

-- a line goes on after its first word
pub words_first : (xs : List ℕ) (i : ℕ) → BeginsWord xs → position is_blank xs ≡ Some i → line_words xs ≡ take i xs ∷ line_words (drop (i + 1) xs)
unfolding line_words
words_first xs i begins e =
    ap (filter is_word) (split_first is_blank xs i e)
    ∙ ap (λ b. cond b (take i xs ∷ line_words (drop (i + 1) xs)) (line_words (drop (i + 1) xs))) (take_is_word xs i begins e)

-- a line with no blank is one word
pub words_whole : (xs : List ℕ) → (length xs == 0) ≡ false → position is_blank xs ≡ None → line_words xs ≡ xs ∷ line_words []
unfolding line_words
words_whole [] some e = absurd (cc)
words_whole (x ∷ xs) some e = ap (filter is_word) (split_whole is_blank (x ∷ xs) (omega (arith, at_none is_blank (x ∷ xs) e)))

-- an empty line has no word
pub words_empty : (xs : List ℕ) → (length xs == 0) ≡ true → line_words xs ≡ []
unfolding line_words
words_empty [] e = refl
words_empty (x ∷ xs) e = absurd (grind (arith, e))

-- ---- ASCII

-- one of two
ascii_one : (b : Bool) (xs ys : List ℕ) → IsAscii xs → IsAscii ys → IsAscii (cond b xs ys)
ascii_one true xs ys h k = h
ascii_one false xs ys h k = k

-- a line of ASCII is ASCII without a carriage return too
pub ascii_line : (line : List ℕ) → IsAscii line → IsAscii (without_return line)
ascii_line line h = ascii_one (slice_index line (length line - 1) == 13) (take (length line - 1) line) line (IsAscii-take line (length line - 1) h) h
