use Rattle.std.proofs.Common.{◌<◌, ◌^◌, sym, arith, take, rules}
use Rattle.level_script.specs.Forms.{written}
use Rattle.level_script.proofs.Forming.{written_small, written_more}
use Rattle.level_script.proofs.forms.written.Goals as goal

pub overflow_mul-value : goal.overflow_mul-value
overflow_mul-value c =
    let small : written (take c.loop-digit.digit-index c.args.digits.now) < 10 ^ 19 = written_small c.args.digits.now c.loop-digit.digit-index c.requires.form c.requires.few (search rules) in
    omega (arith, small, c.loop-digit.invariant)

pub overflow_add-value : goal.overflow_add-value
overflow_add-value c =
    let small : written (take c.loop-digit.digit-index c.args.digits.now) < 10 ^ 19 = written_small c.args.digits.now c.loop-digit.digit-index c.requires.form c.requires.few (search rules) in
    omega (arith, small, c.loop-digit.invariant, c.type_inv.digits c.loop-digit.digit-index)

pub loop-digit-preserved : goal.loop-digit-preserved
loop-digit-preserved c = rw c.loop-digit.invariant (sym (written_more c.args.digits.now c.loop-digit.digit-index (search rules)))
