-- The forms of words.
use Rattle.std.proofs.Common.{◌≡◌, ℕ, ◌+◌, ◌-◌, ◌*◌, ◌^◌, ◌<◌, ◌≤◌, List, [], ◌∷◌, refl, sym, ap, ◌∙◌, Bool, true, false, not, ◌&&◌, cond, map, length, take, get_or, arith, suc, zero, lit<}
use Rattle.std.specs.Prelude.{nat_lt}
use Rattle.std.specs.List.{list_all}
use Rattle.std.specs.Str.{IsUtf8, is_utf8}
use Rattle.std.specs.Char.{is_ascii_digit}
use Rattle.std.specs.Int.Digits.{number_from_digits, AllBelowBase}
use Rattle.std.proofs.lemmas.Int.Digits.{number_lt, number_more}
use Rattle.std.proofs.Math.Nat.{pow-le-pow_right}
use Rattle.std.proofs.lemmas.List.{take-map, length-map, length-take-le}
use Rattle.std.proofs.lemmas.Str.{IsUtf8-from_ascii, IsUtf8-from_is_utf8}
use Rattle.level_script.specs.Forms.{is_identifier, begins_identifier, continues_identifier, written, front_length, front}

-- two tests that hold together
both : (a b : Bool) → (a && b) ≡ true → (a ≡ true) × (b ≡ true)
both true b h = (refl, h)
both false b h = absurd (cc)

-- ---- digits

-- the number of a digit
digit_below : (b : ℕ) → is_ascii_digit b ≡ true → b - 48 < 10
digit_below b h = grind (arith, h)

-- the numbers of digits
digits_below : (ds : List ℕ) → list_all is_ascii_digit ds ≡ true → AllBelowBase 10 (map (λ b. b - 48) ds)
digits_below [] h = tt
digits_below (d ∷ ds) h = let parts = both _ _ h in (digit_below d parts.0, digits_below ds parts.1)

-- the first digits are digits
digits_take : (ds : List ℕ) (i : ℕ) → list_all is_ascii_digit ds ≡ true → list_all is_ascii_digit (take i ds) ≡ true
digits_take ds zero h = refl
digits_take [] (suc i) h = refl
digits_take (d ∷ ds) (suc i) h = let parts = both _ _ h in ap (λ b. b && list_all is_ascii_digit (take i ds)) parts.0 ∙ digits_take ds i parts.1

-- fewer than 20 digits write a number below 10^19
pub written_small : (ds : List ℕ) (i : ℕ) → list_all is_ascii_digit ds ≡ true → length ds ≤ 20 → i < length ds → written (take i ds) < 10 ^ 19
written_small ds i form few below =
    let bound = number_lt 10 (map (λ b. b - 48) (take i ds)) (digits_below (take i ds) (digits_take ds i form)) in
    let count : length (map (λ b. b - 48) (take i ds)) ≤ 19 = rw (length-map, length-take-le i ds (omega arith)) (omega arith) in
    let power : 10 ^ length (map (λ b. b - 48) (take i ds)) ≤ 10 ^ 19 = pow-le-pow_right (lit< tt) count in
    omega (arith, bound, power)

-- the number of the digit at a place
get_digit : (ds : List ℕ) (i : ℕ) → get_or (map (λ b. b - 48) ds) i 0 ≡ get_or ds i 0 - 48
get_digit [] i = refl
get_digit (d ∷ ds) zero = refl
get_digit (d ∷ ds) (suc i) = get_digit ds i

-- one more digit
pub written_more : (ds : List ℕ) (i : ℕ) → i < length ds → written (take (i + 1) ds) ≡ written (take i ds) * 10 + (get_or ds i 0 - 48)
written_more ds i below =
    let f : ℕ → ℕ = λ b. b - 48 in
    let more : number_from_digits 10 (take (i + 1) (map f ds)) ≡ number_from_digits 10 (take i (map f ds)) * 10 + get_or (map f ds) i 0 = number_more 10 (map f ds) i (rw length-map below) in
    ap (number_from_digits 10) (sym (take-map f (i + 1) ds)) ∙ more ∙ (λ t. number_from_digits 10 (take-map f i ds t) * 10 + get_digit ds i t)

-- ---- identifiers

-- what begins an identifier is ASCII
begins_ascii : (b : ℕ) → begins_identifier b ≡ true → b < 128
begins_ascii b h = grind (arith, h)

-- what continues an identifier is ASCII
continues_ascii : (b : ℕ) → continues_identifier b ≡ true → b < 128
continues_ascii b h = grind (arith, h)

-- so is each byte that does
others_ascii : (bs : List ℕ) → list_all continues_identifier bs ≡ true → (i : ℕ) → get_or bs i 0 < 128
others_ascii [] h i = lit< tt
others_ascii (b ∷ bs) h zero = continues_ascii b (both _ _ h).0
others_ascii (b ∷ bs) h (suc i) = others_ascii bs (both _ _ h).1 i

-- and each byte of an identifier
all_ascii : (b : ℕ) (bs : List ℕ) → begins_identifier b ≡ true → list_all continues_identifier bs ≡ true → (i : ℕ) → get_or (b ∷ bs) i 0 < 128
all_ascii b bs begins continues zero = begins_ascii b begins
all_ascii b bs begins continues (suc i) = others_ascii bs continues i

-- an identifier is text
pub identifier_utf8 : (bs : List ℕ) → is_identifier bs ≡ true → IsUtf8 bs
identifier_utf8 [] h = absurd (cc)
identifier_utf8 (b ∷ bs) h =
    let parts = both (begins_identifier b && list_all continues_identifier bs) (nat_lt (length bs) 64) h in
    let fronts = both (begins_identifier b) (list_all continues_identifier bs) parts.0 in
    IsUtf8-from_ascii (b ∷ bs) (all_ascii b bs fronts.0 fronts.1)

-- ---- lines

-- a test that cannot hold fails
not_true : (b : Bool) → (b ≡ true → ⊥) → b ≡ false
not_true true h = absurd (h refl)
not_true false h = refl

-- bytes that are no text fail the test
pub not_utf8 : (bs : List ℕ) → (IsUtf8 bs → ⊥) → is_utf8 bs ≡ false
not_utf8 bs h = not_true (is_utf8 bs) (λ e. h (IsUtf8-from_is_utf8 bs e))

-- ---- bytes in front

-- one more byte in front, or none
front_step : (b : ℕ) (bs : List ℕ) (n : ℕ) (t : Bool) → continues_identifier b ≡ t → list_all continues_identifier (take n bs) ≡ true
    → list_all continues_identifier (take (cond (not (not t)) (1 + n) 0) (b ∷ bs)) ≡ true
front_step b bs n true is rest =
    let more : 1 + n ≡ suc n = omega arith in
    ap (λ k. list_all continues_identifier (take k (b ∷ bs))) more ∙ (λ i. is i && rest i)
front_step b bs n false is rest = refl

-- the bytes in front continue an identifier
pub front_continues : (word : List ℕ) → list_all continues_identifier (front word) ≡ true
front_continues [] = refl
front_continues (b ∷ bs) = front_step b bs (front_length bs) (continues_identifier b) refl (front_continues bs)

-- bytes that continue an identifier are one by the first and by their number
pub front_is : (b : ℕ) (bs : List ℕ) → list_all continues_identifier (b ∷ bs) ≡ true → is_identifier (b ∷ bs) ≡ begins_identifier b && nat_lt (length bs) 64
front_is b bs h =
    let parts = both (continues_identifier b) (list_all continues_identifier bs) h in
    go (begins_identifier b) (list_all continues_identifier bs) parts.1
  where
    go : (t all : Bool) → all ≡ true → (t && all && nat_lt (length bs) 64) ≡ (t && nat_lt (length bs) 64)
    go true all e = ap (λ a. a && nat_lt (length bs) 64) e
    go false all e = refl
