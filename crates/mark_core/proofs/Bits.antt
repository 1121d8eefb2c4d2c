-- The words of bits.
use Rattle.std.proofs.Common.{◌≡◌, ◌≢◌, ℕ, zero, suc, ◌+◌, ◌-◌, ◌*◌, ◌<◌, ◌≤◌, ◌^◌, eqb, rules, refl, sym, ap, ◌∙◌, max, min, Bool, true, false, arith, bit_or, bit_and, w64}
use Rattle.std.specs.Prelude.{nat_lt}
use Rattle.std.specs.Int.{bit_at, bit_not}
use Rattle.std.proofs.lemmas.Bool.{eqb-true, eq-eqb}
use Rattle.std.proofs.lemmas.Nat.Bits.{bit_at_or, bit_at_and, bit_at-pow_same, bit_at-pow_other, same_from_bits, bit_at_above, bit_at-zero, bit_at_cat_low, bit_at_cat_high}
use Rattle.word_layout.specs.Values.{bit}
use Rattle.word_layout.specs.Changes.{ClearsBit}
use Rattle.word_layout.proofs.Changing.{bits_change}
use Rattle.mark_core.specs.Words.{bits_word, BitsFollow}

pub bits-suc : (f : ℕ → Bool) (n : ℕ) → bits_word f (suc n) ≡ bits_word f n + bit (f n) * 2 ^ n
unfolding bits_word
bits-suc f n = refl

pub bits-more : (f : ℕ → Bool) (n : ℕ) → bits_word f (n + 1) ≡ bits_word f n + bit (f n) * 2 ^ n
bits-more f n = ap (bits_word f) (let e : n + 1 ≡ suc n = omega arith in e) ∙ bits-suc f n

-- the first n bits make a number below 2 ^ n
pub bits-below : (f : ℕ → Bool) (n : ℕ) → bits_word f n < 2 ^ n
unfolding bits_word
bits-below f zero = omega arith
bits-below f (suc n) = go (f n) (bits-below f n)
  where
    go : (b : Bool) → bits_word f n < 2 ^ n → bits_word f n + bit b * 2 ^ n < 2 ^ suc n
    go true lt = let double : 2 ^ suc n ≡ 2 ^ n + 2 ^ n = grind arith in omega arith
    go false lt = let double : 2 ^ suc n ≡ 2 ^ n + 2 ^ n = grind arith in omega arith

-- ---- the bits of a word

bit_of : (b : Bool) → bit_at (bit b) 0 ≡ bit b
bit_of true = refl
bit_of false = refl

pub bit_in : (f : ℕ → Bool) (n i : ℕ) → i < n → bit_at (bits_word f n) i ≡ bit (f i)
bit_in f zero i lt = absurd (omega (arith, lt))
bit_in f (suc n) i lt = go (eqb i n) refl (bit_in f n i)
  where
    turned : bits_word f (suc n) ≡ bit (f n) * 2 ^ n + bits_word f n
    turned = bits-suc f n ∙ omega arith

    go : (b : Bool) → eqb i n ≡ b → (i < n → bit_at (bits_word f n) i ≡ bit (f i)) → bit_at (bits_word f (suc n)) i ≡ bit (f i)
    go true e before =
        let same : i ≡ n = eqb-true i n e in
        let le : n ≤ i = omega (arith, same) in
        let none : i - n ≡ 0 = omega (arith, same) in
        ap (λ (x : ℕ). bit_at x i) turned
        ∙ (bit_at_cat_high (bit (f n)) n (bits_word f n) i (bits-below f n) le
        ∙ (ap (bit_at (bit (f n))) none ∙ (bit_of (f n) ∙ ap (λ (j : ℕ). bit (f j)) (sym same))))
    go false e before =
        let off : i ≢ n = (λ same. let wrong : false ≡ true = sym e ∙ eq-eqb i n same in absurd cc) in
        let low : i < n = omega (arith, lt, off) in
        ap (λ (x : ℕ). bit_at x i) turned ∙ (bit_at_cat_low (bit (f n)) n (bits_word f n) i low ∙ before low)

-- a word is told by its bits
pub word_same : (f g : ℕ → Bool) (n : ℕ) → ((i : ℕ) → i < n → f i ≡ g i) → bits_word f n ≡ bits_word g n
word_same f g n same = same_from_bits (bits_word f n) (bits_word g n) (λ i. go i (nat_lt i n) refl)
  where
    go : (i : ℕ) (b : Bool) → nat_lt i n ≡ b → bit_at (bits_word f n) i ≡ bit_at (bits_word g n) i
    go i true e = let lt : i < n = search rules in bit_in f n i lt ∙ (ap bit (same i lt) ∙ sym (bit_in g n i lt))
    go i false e = let far : n ≤ i = search rules in bit_at_above (bits_word f n) n i (bits-below f n) far ∙ sym (bit_at_above (bits_word g n) n i (bits-below g n) far)

-- one bit is set
pub word_put : (f g : ℕ → Bool) (n k : ℕ) → k < n → g k ≡ true → ((i : ℕ) → i ≢ k → g i ≡ f i) → bits_word g n ≡ bit_or (bits_word f n) (2 ^ k)
word_put f g n k low here other = same_from_bits (bits_word g n) (bit_or (bits_word f n) (2 ^ k)) (λ i. go i (nat_lt i n) refl (eqb i k) refl)
  where
    with_one : (b : Bool) → max (bit b) 1 ≡ 1
    with_one true = refl
    with_one false = refl

    with_none : (b : Bool) → max (bit b) 0 ≡ bit b
    with_none true = refl
    with_none false = refl

    go : (i : ℕ) (b : Bool) → nat_lt i n ≡ b → (d : Bool) → eqb i k ≡ d → bit_at (bits_word g n) i ≡ bit_at (bit_or (bits_word f n) (2 ^ k)) i
    go i true e true at =
        let lt : i < n = search rules in
        let same : i ≡ k = eqb-true i k at in
        bit_in g n i lt
        ∙ (ap (λ (j : ℕ). bit (g j)) same
        ∙ (ap bit here
        ∙ sym
        (bit_at_or (bits_word f n) (2 ^ k) i
        ∙ (ap (λ (x : ℕ). max x (bit_at (2 ^ k) i)) (bit_in f n i lt)
        ∙ (ap (λ (x : ℕ). max (bit (f i)) x) (ap (bit_at (2 ^ k)) same ∙ bit_at-pow_same k) ∙ with_one (f i))))))
    go i true e false at =
        let lt : i < n = search rules in
        let off : i ≢ k = (λ same. let wrong : false ≡ true = sym at ∙ eq-eqb i k same in absurd cc) in
        bit_in g n i lt
        ∙ (ap bit (other i off)
        ∙ sym
        (bit_at_or (bits_word f n) (2 ^ k) i
        ∙ (ap (λ (x : ℕ). max x (bit_at (2 ^ k) i)) (bit_in f n i lt)
        ∙ (ap (λ (x : ℕ). max (bit (f i)) x) (bit_at-pow_other k i off) ∙ with_none (f i)))))
    go i false e d at =
        let far : n ≤ i = search rules in
        let off : i ≢ k = (λ same. absurd (omega (arith, far, low, same))) in
        bit_at_above (bits_word g n) n i (bits-below g n) far
        ∙ sym
        (bit_at_or (bits_word f n) (2 ^ k) i
        ∙ (ap (λ (x : ℕ). max x (bit_at (2 ^ k) i)) (bit_at_above (bits_word f n) n i (bits-below f n) far)
        ∙ ap (max 0) (bit_at-pow_other k i off)))

-- one bit is cleared
pub word_cut : (f g : ℕ → Bool) (k : ℕ) → k < 64 → g k ≡ false → ((i : ℕ) → i ≢ k → g i ≡ f i) → bits_word g 64 ≡ bit_and (bits_word f 64) (bit_not w64 (2 ^ k))
word_cut f g k low here other = same_from_bits (bits_word g 64) (bit_and (bits_word f 64) (bit_not w64 (2 ^ k))) (λ i. go i (nat_lt i 64) refl (eqb i k) refl)
  where
    change : ClearsBit (bits_word f 64) k
    change = (bits_change (bits_word f 64) k (bits-below f 64) low).1

    go : (i : ℕ) (b : Bool) → nat_lt i 64 ≡ b → (d : Bool) → eqb i k ≡ d → bit_at (bits_word g 64) i ≡ bit_at (bit_and (bits_word f 64) (bit_not w64 (2 ^ k))) i
    go i true e true at =
        let lt : i < 64 = search rules in
        let same : i ≡ k = eqb-true i k at in
        bit_in g 64 i lt ∙ (ap (λ (j : ℕ). bit (g j)) same ∙ (ap bit here ∙ sym (ap (bit_at (bit_and (bits_word f 64) (bit_not w64 (2 ^ k)))) same ∙ change.one)))
    go i true e false at =
        let lt : i < 64 = search rules in
        let off : i ≢ k = (λ same. let wrong : false ≡ true = sym at ∙ eq-eqb i k same in absurd cc) in
        bit_in g 64 i lt ∙ (ap bit (other i off) ∙ sym (change.others i lt off ∙ bit_in f 64 i lt))
    go i false e d at =
        let far : 64 ≤ i = search rules in
        let none_f : bit_at (bits_word f 64) i ≡ 0 = bit_at_above (bits_word f 64) 64 i (bits-below f 64) far in
        bit_at_above (bits_word g 64) 64 i (bits-below g 64) far
        ∙ sym
        (bit_at_and (bits_word f 64) (bit_not w64 (2 ^ k)) i ∙ (ap (λ (x : ℕ). min x (bit_at (bit_not w64 (2 ^ k)) i)) none_f ∙ omega arith))

-- a word is zero exactly with no bits
pub zero_bits : (f : ℕ → Bool) (n : ℕ) → bits_word f n ≡ 0 → (i : ℕ) → i < n → f i ≡ false
zero_bits f n none i lt = go (f i) refl
  where
    go : (b : Bool) → f i ≡ b → b ≡ false
    go true e = let one : bit_at (bits_word f n) i ≡ 1 = bit_in f n i lt ∙ ap bit e in
        let zero_at : bit_at (bits_word f n) i ≡ 0 = ap (λ (x : ℕ). bit_at x i) none ∙ bit_at-zero i in
        absurd (omega (arith, one, zero_at))
    go false e = refl

pub bits_empty : (f : ℕ → Bool) → bits_word f 0 ≡ 0
unfolding bits_word
bits_empty f = refl

pub no_bits : (f : ℕ → Bool) (n : ℕ) → ((i : ℕ) → i < n → f i ≡ false) → bits_word f n ≡ 0
no_bits f zero off = bits_empty f
no_bits f (suc n) off = let rest = no_bits f n (λ i lt. off i (omega (arith, lt))) in
    let step = bits-suc f n in
    let last : bit (f n) ≡ 0 = ap bit (off n (omega arith)) in
    bits-suc f n ∙ (ap (λ (x : ℕ). x + bit (f n) * 2 ^ n) rest ∙ (ap (λ (x : ℕ). 0 + x * 2 ^ n) last ∙ omega arith))

pub bits_follow : BitsFollow
bits_follow f g k lt others = record { set = λ on. word_put f g 64 k lt on others; cleared = λ off. word_cut f g k lt off others }
