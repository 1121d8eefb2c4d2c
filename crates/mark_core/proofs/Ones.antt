-- The numbers at which a test passes, as a list; and a word of bits counts them.
use Rattle.std.proofs.Common.{◌≡◌, ◌≢◌, ℕ, zero, suc, ◌+◌, ◌<◌, ◌≤◌, eqb, refl, sym, ap, ◌∙◌, cond, ⊎_elim, Bool, true, false, List, [], ◌∷◌, length, count_ones, arith}
use Rattle.std.proofs.lemmas.Bool.{eqb-true, eq-eqb}
use Rattle.std.proofs.lemmas.Nat.{ones_cat}
use Rattle.word_layout.specs.Values.{bit}
use Rattle.mark_core.specs.Changes.{has}
use Rattle.mark_core.specs.Machine.{count_below}
use Rattle.mark_core.specs.Steps.{none_set}
use Rattle.mark_core.specs.Words.{bits_word, BitsAreShown}
use Rattle.mark_core.proofs.Bits.{bits-suc, bits-below, bits_empty, bit_in, zero_bits, no_bits}
use Rattle.mark_core.proofs.Tools.{or_either, or_right}

-- the numbers from this one on, of so many, that pass; the greatest one first
pub ones : (ℕ → Bool) → ℕ → ℕ → List ℕ
ones f from zero = []
ones f from (suc n) = cond (f (from + n)) ((from + n) ∷ ones f from n) (ones f from n)

no_ones : ◌≡◌ {A = ℕ} (count_ones 0) 0
unfolding lib.Count.ones
no_ones = refl

count_bit : (b : Bool) → count_ones (bit b) ≡ cond b 1 0
unfolding lib.Count.ones
count_bit true = refl
count_bit false = no_ones

-- a word of bits has as many ones as tests pass
pub count_bits : (f : ℕ → Bool) (n : ℕ) → count_ones (bits_word f n) ≡ count_below f n
unfolding count_below
count_bits f zero = ap count_ones (bits_empty f) ∙ no_ones
count_bits f (suc n) = go (f n) refl (count_bits f n)
  where
    split : count_ones (bits_word f (suc n)) ≡ count_ones (bit (f n)) + count_ones (bits_word f n)
    split = ap count_ones (bits-suc f n ∙ omega arith) ∙ ones_cat n (bit (f n)) (bits_word f n) (bits-below f n)

    go : (b : Bool) → f n ≡ b → count_ones (bits_word f n) ≡ count_below f n → count_ones (bits_word f (suc n)) ≡ cond b (suc (count_below f n)) (count_below f n)
    go true e rest = let one : count_ones (bit (f n)) ≡ 1 = ap (λ (b : Bool). count_ones (bit b)) e ∙ count_bit true in omega (arith, split, one, rest)
    go false e rest = let none_here : count_ones (bit (f n)) ≡ 0 = ap (λ (b : Bool). count_ones (bit b)) e ∙ count_bit false in omega (arith, split, none_here, rest)

pub ones_length : (f : ℕ → Bool) (from n : ℕ) → length (ones f from n) ≡ count_below (λ i. f (from + i)) n
unfolding ones count_below
ones_length f from zero = refl
ones_length f from (suc n) = go (f (from + n)) (ones_length f from n)
  where
    go : (b : Bool) → length (ones f from n) ≡ count_below (λ i. f (from + i)) n
        → length (cond b ((from + n) ∷ ones f from n) (ones f from n)) ≡ cond b (suc (count_below (λ i. f (from + i)) n)) (count_below (λ i. f (from + i)) n)
    go true rest = ap suc rest
    go false rest = rest

pub in_ones : (f : ℕ → Bool) (from n x : ℕ) → f x ≡ true → from ≤ x → x < from + n → has (ones f from n) x ≡ true
unfolding ones
in_ones f from zero x is low high = absurd (omega (arith, low, high))
in_ones f from (suc n) x is low high = go (eqb x (from + n)) refl (in_ones f from n x is low)
  where
    more : (b : Bool) → has (ones f from n) x ≡ true → has (cond b ((from + n) ∷ ones f from n) (ones f from n)) x ≡ true
    more true h = or_right (eqb x (from + n)) (has (ones f from n) x) h
    more false h = h

    go : (b : Bool) → eqb x (from + n) ≡ b → (x < from + n → has (ones f from n) x ≡ true) → has (cond (f (from + n)) ((from + n) ∷ ones f from n) (ones f from n)) x ≡ true
    go true e rest = let same : x ≡ from + n = eqb-true x (from + n) e in let on : f (from + n) ≡ true = ap f (sym same) ∙ is in rw (on, e) refl
    go false e rest =
        let off : x ≢ from + n = (λ same. let wrong : false ≡ true = sym e ∙ eq-eqb x (from + n) same in absurd cc) in
        more (f (from + n)) (rest (omega (arith, high, off)))

-- such a number passes, and is one of those
pub record IsOne (f : ℕ → Bool) (from n x : ℕ) : Type 0 where
  pub on : f x ≡ true
  pub low : from ≤ x
  pub high : x < from + n

pub ones_only : (f : ℕ → Bool) (from n x : ℕ) → has (ones f from n) x ≡ true → IsOne f from n x
unfolding ones
ones_only f from zero x h = absurd cc
ones_only f from (suc n) x h = go (f (from + n)) refl h (ones_only f from n x)
  where
    wider : IsOne f from n x → IsOne f from (suc n) x
    wider o = record { on = o.on; low = o.low; high = (let less = o.high in omega (arith, less)) }

    go : (b : Bool) → f (from + n) ≡ b → has (cond b ((from + n) ∷ ones f from n) (ones f from n)) x ≡ true → (has (ones f from n) x ≡ true → IsOne f from n x)
        → IsOne f from (suc n) x
    go true e h rest =
        ⊎_elim (λ (a : eqb x (from + n) ≡ true). let same : x ≡ from + n = eqb-true x (from + n) a in record { on = ap f same ∙ e; low = omega (arith, same); high = omega (arith, same) })
        (λ (b : has (ones f from n) x ≡ true). wider (rest b)) (or_either (eqb x (from + n)) (has (ones f from n) x) h)
    go false e h rest = wider (rest h)

-- nothing is set where no test below the bound passes
pub none_from : (f : ℕ → Bool) (n : ℕ) → ((i : ℕ) → i < n → f i ≡ false) → none_set f n ≡ true
unfolding none_set
none_from f zero off = refl
none_from f (suc n) off = rw (off n (omega arith)) (none_from f n (λ i lt. off i (omega (arith, lt))))

pub bits_are_shown : BitsAreShown
bits_are_shown f n = record { below = bits-below f n; each = bit_in f n; none = (zero_bits f n, no_bits f n); ones = count_bits f n }
