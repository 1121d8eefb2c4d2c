use Rattle.std.proofs.Common.{◌≡◌, ◌+◌, ◌*◌, ap, sym, ◌∙◌, arith, refl}
use Rattle.mark_core.specs.Machine.{row_bit}
use Rattle.mark_core.specs.Shown.{state}
use Rattle.mark_core.specs.Steps.{none_set}
use Rattle.mark_core.proofs.Sets.{none_set-more, some_set}
use Rattle.mark_core.proofs.machine.Machine.is_zero_word.Goals as goal

pub loop-i-init : goal.loop-i-init
unfolding none_set
loop-i-init c = refl

pub loop-i-preserved : goal.loop-i-preserved
loop-i-preserved c =
    none_set-more (λ k. row_bit (state c.args.self.now).place c.args.row (64 * c.args.word + k)) c.loop-i.i c.loop-i.invariant (sym c.row_bit.ensures ∙ c.if-row_bit.false)

pub returns-then-row_bit : goal.returns-then-row_bit
returns-then-row_bit c =
    sym (some_set (λ k. row_bit (state c.args.self.now).place c.args.row (64 * c.args.word + k)) 64 c.loop-i.i c.loop-i-test.true (sym c.row_bit.ensures ∙ c.if-row_bit.true))

pub returns : goal.returns
returns c =
    let end : c.loop-i.i ≡ 64 = omega arith in
    sym (ap (none_set (λ k. row_bit (state c.args.self.now).place c.args.row (64 * c.args.word + k))) (sym end) ∙ c.loop-i.invariant)
