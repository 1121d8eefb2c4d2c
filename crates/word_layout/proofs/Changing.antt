-- What one atomic step makes of the value of a word.
use Rattle.std.proofs.Common.{◌≡◌, ℕ, ◌+◌, ◌-◌, ◌*◌, ◌/◌, ◌%◌, ◌<◌, ◌≤◌, ◌^◌, zero, suc, min, max, refl, sym, ap, ◌∙◌, arith, w64, bit_and, bit_or, bit_xor, count_ones, lit<, mod-lt, div-add-mod', add-mul, Bool, true, false, not}
use Rattle.std.specs.Int.{bit_at, bit_not}
use Rattle.std.specs.Int.Bits.{or_add_and, xor_add_and}
use Rattle.std.proofs.Math.Pow.{pow-lt}
use Rattle.std.proofs.lemmas.Nat.{and-not, and_comm, and_mask, or_shifted, ones_cat, ones-le, zero_from_ones, pow_pos}
use Rattle.std.proofs.lemmas.Nat.Bits.{and_pow, bit_at_or, bit_at_and, bit_at_not, bit_at-pow_same, bit_at-pow_other}
use Rattle.word_layout.specs.Types.{Gate, Head}
use Rattle.word_layout.specs.Values.{bit, phase_number, gate_word, IsGate, head_word, IsHead}
use Rattle.word_layout.specs.Changes.{FramesAdd, PhaseIsBits0And1, DirtyIsBit3, ColourIsBit3, BitsChange}
use Rattle.word_layout.proofs.Different.{bit_below, phase_below, life_below}

pub frames_add : FramesAdd
frames_add g = omega arith

-- bit 3 is set, and cleared
set_3 : (n : ℕ) → bit_or n 8 + bit_at n 3 * 8 ≡ n + 8
set_3 n = ap (λ m. bit_or n 8 + m) (sym (and_pow n 3)) ∙ or_add_and n 8

clear_3 : (n : ℕ) → n < 2 ^ 64 → bit_and n (bit_not w64 8) + bit_at n 3 * 8 ≡ n
clear_3 n lt =
    let both = and-not 64 8 n (omega arith) lt in
    let low : bit_and 8 n ≡ bit_at n 3 * 8 = and_comm 8 n ∙ and_pow n 3 in
    let high : bit_and n (bit_not w64 8) ≡ bit_and (2 ^ 64 - 1 - 8) n = and_comm n (bit_not w64 8) in
    omega arith

pub dirty : (g : Gate) → IsGate g → DirtyIsBit3 g
dirty g is =
    let p = phase_below g.phase in
    let a = bit_below g.parity in
    let d = bit_below g.dirty in
    let here : bit_at (gate_word g) 3 ≡ bit g.dirty = omega arith in
    let s = set_3 (gate_word g) in
    let c = clear_3 (gate_word g) (omega arith) in
    record { set = omega arith; cleared = omega arith }

-- bits 0 and 1 are replaced, and bit 2 is flipped
replace_low : (n p : ℕ) → n < 2 ^ 64 → p < 4 → bit_or (bit_and n (bit_not w64 3)) p + n % 4 ≡ n + p
replace_low n p lt few =
    let both = and-not 64 3 n (omega arith) lt in
    let low : bit_and 3 n ≡ n % 4 = and_comm 3 n ∙ and_mask n 2 in
    let high : bit_and n (bit_not w64 3) ≡ bit_and (2 ^ 64 - 1 - 3) n = and_comm n (bit_not w64 3) in
    let kept : bit_and n (bit_not w64 3) ≡ n / 4 * 4 = omega arith in
    let joined = or_shifted (n / 4) 2 p few in
    ap (λ x. bit_or x p + n % 4) kept ∙ omega arith

flip_2 : (n : ℕ) → bit_xor n 4 + bit_at n 2 * 8 ≡ n + 4
flip_2 n = let both = xor_add_and n 4 in let one = and_pow n 2 in omega arith

bit_not_is : (b : Bool) → bit (not b) + bit b ≡ 1
bit_not_is true = refl
bit_not_is false = refl

pub phase : (g : Gate) → IsGate g → PhaseIsBits0And1 g
phase g is =
    let now = phase_below g.phase in
    let a = bit_below g.parity in
    let d = bit_below g.dirty in
    let here : bit_at (gate_word g) 2 ≡ bit g.parity = omega arith in
    let f = flip_2 (gate_word g) in
    let other = bit_not_is g.parity in
    record {
      moved = λ p. let few = phase_below p in let r = replace_low (gate_word g) (phase_number p) (omega arith) (omega arith) in omega arith;
      flipped = omega arith;
    }

pub colour : (h : Head) → IsHead h → ColourIsBit3 h
colour h is =
    let l = life_below h.life in
    let d = bit_below h.colour in
    let here : bit_at (head_word h) 3 ≡ bit h.colour = omega arith in
    let s = set_3 (head_word h) in
    let c = clear_3 (head_word h) (omega arith) in
    record { set = omega arith; cleared = omega arith }

-- ---- rows

bit_few : (w i : ℕ) → bit_at w i ≤ 1
bit_few w i = omega arith

or_one : (a b : ℕ) → a ≤ 1 → b ≡ 1 → max a b ≡ 1
or_one a b few e = omega arith

or_none : (a b : ℕ) → b ≡ 0 → max a b ≡ a
or_none a b e = omega arith

and_none : (a b c : ℕ) → b ≡ 1 - c → c ≡ 1 → min a b ≡ 0
and_none a b c e one = omega arith

and_one : (a b c : ℕ) → a ≤ 1 → b ≡ 1 - c → c ≡ 0 → min a b ≡ a
and_one a b c few e none = omega arith

-- how many bits a number has, its last digit apart, and digit k
count_digit : (b : ℕ) → b ≤ 1 → count_ones b ≡ b
count_digit b few = few_are b (count_ones b) few (ones-le 1 b (omega arith)) (ones-le b b (digit_lt b few)) (zero_from_ones b)
  where
    digit_lt : (b : ℕ) → b ≤ 1 → b < 2 ^ b
    digit_lt zero f = lit< tt
    digit_lt (suc zero) f = lit< tt
    digit_lt (suc (suc b)) f = absurd (omega arith)

    few_are : (b n : ℕ) → b ≤ 1 → n ≤ 1 → n ≤ b → (n ≡ 0 → b ≡ 0) → n ≡ b
    few_are zero n f few le none = omega arith
    few_are (suc b) zero f few le none = sym (none refl)
    few_are (suc b) (suc n) f few le none = omega arith

count_last : (a b : ℕ) → b ≤ 1 → count_ones (a * 2 + b) ≡ count_ones a + b
count_last a b few = ones_cat 1 a b (omega arith) ∙ ap (λ x. count_ones a + x) (count_digit b few)

count_at : (k a b r : ℕ) → b ≤ 1 → r < 2 ^ k → count_ones ((a * 2 + b) * 2 ^ k + r) ≡ (count_ones a + b) + count_ones r
count_at k a b r few lt = ones_cat k (a * 2 + b) r lt ∙ ap (λ x. x + count_ones r) (count_last a b few)

-- the digits above digit k, digit k, and those below it
apart : (w k : ℕ) → w ≡ (w / 2 ^ k / 2 * 2 + bit_at w k) * 2 ^ k + w % 2 ^ k
apart w k =
    let q : w / 2 ^ k ≡ w / 2 ^ k / 2 * 2 + bit_at w k = omega arith in
    sym (div-add-mod' w (2 ^ k)) ∙ ap (λ x. x * 2 ^ k + w % 2 ^ k) q

count_of : (w k : ℕ) → count_ones w ≡ (count_ones (w / 2 ^ k / 2) + bit_at w k) + count_ones (w % 2 ^ k)
count_of w k =
    ap count_ones (apart w k)
    ∙ count_at k (w / 2 ^ k / 2) (bit_at w k) (w % 2 ^ k) (bit_few w k) (mod-lt w (pow_pos k))

-- the number whose digit k is b instead
with_digit : (w k b n : ℕ) → b ≤ 1 → n + bit_at w k * 2 ^ k ≡ w + b * 2 ^ k → count_ones n + bit_at w k ≡ count_ones w + b
with_digit w k b n few e =
    let high = w / 2 ^ k / 2 in
    let was = apart w k in
    let old = add-mul (high * 2) (bit_at w k) (2 ^ k) in
    let new = add-mul (high * 2) b (2 ^ k) in
    let now : n ≡ (high * 2 + b) * 2 ^ k + w % 2 ^ k = omega arith in
    let counted = ap count_ones now ∙ count_at k high b (w % 2 ^ k) few (mod-lt w (pow_pos k)) in
    let before = count_of w k in
    omega arith

set_at_k : (w k : ℕ) → bit_or w (2 ^ k) + bit_at w k * 2 ^ k ≡ w + 1 * 2 ^ k
set_at_k w k = let both = or_add_and w (2 ^ k) in let one = and_pow w k in omega arith

clear_at_k : (w k : ℕ) → w < 2 ^ 64 → 2 ^ k < 2 ^ 64 → bit_and w (bit_not w64 (2 ^ k)) + bit_at w k * 2 ^ k ≡ w + 0 * 2 ^ k
clear_at_k w k lt fits =
    let both = and-not 64 (2 ^ k) w fits lt in
    let low : bit_and (2 ^ k) w ≡ bit_at w k * 2 ^ k = and_comm (2 ^ k) w ∙ and_pow w k in
    let high : bit_and w (bit_not w64 (2 ^ k)) ≡ bit_and (2 ^ 64 - 1 - 2 ^ k) w = and_comm w (bit_not w64 (2 ^ k)) in
    omega arith

pub bits_change : BitsChange
bits_change w k word lt =
    let fits = pow-lt {i = k} {j = 64} lt in (
      record {
        count = with_digit w k 1 (bit_or w (2 ^ k)) (omega arith) (set_at_k w k);
        one = bit_at_or w (2 ^ k) k ∙ or_one (bit_at w k) (bit_at (2 ^ k) k) (bit_few w k) (bit_at-pow_same k);
        others = λ i ne. bit_at_or w (2 ^ k) i ∙ or_none (bit_at w i) (bit_at (2 ^ k) i) (bit_at-pow_other k i ne);
      },
      record {
        count = with_digit w k 0 (bit_and w (bit_not w64 (2 ^ k))) (omega arith) (clear_at_k w k word fits) ∙ omega arith;
        one = bit_at_and w (bit_not w64 (2 ^ k)) k ∙ and_none (bit_at w k) (bit_at (bit_not w64 (2 ^ k)) k) (bit_at (2 ^ k) k) (bit_at_not w64 (2 ^ k) k fits lt) (bit_at-pow_same k);
        others =
            λ i few ne.
            bit_at_and w (bit_not w64 (2 ^ k)) i
            ∙ and_one (bit_at w i) (bit_at (bit_not w64 (2 ^ k)) i) (bit_at (2 ^ k) i) (bit_few w i) (bit_at_not w64 (2 ^ k) i fits few)
            (bit_at-pow_other k i ne);
      },
    )
