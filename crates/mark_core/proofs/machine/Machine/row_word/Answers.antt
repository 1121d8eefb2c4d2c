use Rattle.std.proofs.Common.{◌≡◌, ℕ, ◌+◌, ◌*◌, ◌<◌, ◌^◌, Bool, ap, sym, subst, ◌∙◌, arith, refl}
use Rattle.mark_core.specs.Machine.{row_bit}
use Rattle.mark_core.specs.Shown.{state}
use Rattle.word_layout.specs.Values.{bit}
use Rattle.mark_core.specs.Words.{bits_word}
use Rattle.mark_core.proofs.Bits.{bits-more, bits-below}
use Rattle.mark_core.proofs.machine.Machine.row_word.Goals as goal

pub loop-i-init : goal.loop-i-init
unfolding bits_word
loop-i-init c = refl

pub with_bit-bits-requires-clause-word : goal.with_bit-bits-requires-clause-word
with_bit-bits-requires-clause-word c =
    subst (λ (w : ℕ). w < 2 ^ c.loop-i.i) (sym c.loop-i.invariant)
    (bits-below (λ k. row_bit (state c.args.self.now).place c.args.row (64 * c.args.word + k)) c.loop-i.i)

pub loop-i-preserved : goal.loop-i-preserved
loop-i-preserved c =
    c.with_bit-bits.ensures
    ∙ (ap (λ (w : ℕ). w + bit c.row_bit.result * 2 ^ c.loop-i.i) c.loop-i.invariant
    ∙ (ap (λ (b : Bool). bits_word (λ k. row_bit (state c.args.self.now).place c.args.row (64 * c.args.word + k)) c.loop-i.i + bit b * 2 ^ c.loop-i.i) c.row_bit.ensures
    ∙ sym (bits-more (λ k. row_bit (state c.args.self.now).place c.args.row (64 * c.args.word + k)) c.loop-i.i)))

pub returns : goal.returns
returns c =
    let end : c.loop-i.i ≡ 64 = omega arith in
    c.loop-i.invariant ∙ ap (bits_word (λ k. row_bit (state c.args.self.now).place c.args.row (64 * c.args.word + k))) end
