-- The table is held against the definition byte by byte.
use Rattle.std.proofs.Common.{◌≡◌, ℕ, zero, suc, ◌+◌, ◌<◌, ◌==◌, Bool, true, false, not, ◌&&◌, List, [], ◌∷◌, length, slice_index_or, refl, subst, arith}
use Rattle.std.specs.Bool.{beq}
use Rattle.level_script.specs.Forms.{continues_identifier}
use Rattle.level_script.specs.declared.forms.TheConstants.{CONTINUES}
use Rattle.level_script.proofs.forms.continues_identifier.Goals as goal

-- these places, the first of which is that of byte b, tell of each byte what is so
tells : List ℕ → ℕ → Bool
tells [] b = true
tells (x ∷ xs) b = beq (not (x == 46)) (continues_identifier b) && tells xs (b + 1)

-- the first tells it, and the others do
first_tells : (p q rest : Bool) → (beq p q && rest) ≡ true → (p ≡ q) × (rest ≡ true)
first_tells true true rest h = (refl, h)
first_tells true false rest h = absurd cc
first_tells false true rest h = absurd cc
first_tells false false rest h = (refl, h)

-- the place of a byte tells it
told : (xs : List ℕ) (b i : ℕ) → tells xs b ≡ true → i < length xs → not (slice_index_or xs i 0 == 46) ≡ continues_identifier (b + i)
unfolding tells
told [] b i h below = absurd (omega arith)
told (x ∷ xs) b zero h below =
    let P : ℕ → Type 0 = λ k. not (x == 46) ≡ continues_identifier k in
    let at : b ≡ b + 0 = omega arith in
    subst P at (first_tells (not (x == 46)) (continues_identifier b) (tells xs (b + 1)) h).0
told (x ∷ xs) b (suc i) h below =
    let P : ℕ → Type 0 = λ k. not (slice_index_or xs i 0 == 46) ≡ continues_identifier k in
    let at : b + 1 + i ≡ b + suc i = omega arith in
    subst P at (told xs (b + 1) i (first_tells (not (x == 46)) (continues_identifier b) (tells xs (b + 1)) h).1 (omega arith))

-- the whole table does
all_told : (table : List ℕ) (b : ℕ) → tells table 0 ≡ true → b < length table → not (slice_index_or table b 0 == 46) ≡ continues_identifier b
all_told table b h below =
    let P : ℕ → Type 0 = λ k. not (slice_index_or table b 0 == 46) ≡ continues_identifier k in
    let at : 0 + b ≡ b = omega arith in
    subst P at (told table 0 b h below)

pub returns : goal.returns
unfolding tells
returns c = all_told CONTINUES c.args.byte refl (omega arith)
