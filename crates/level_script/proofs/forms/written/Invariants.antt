use Rattle.std.proofs.Common.{◌≡◌, take}
use Rattle.level_script.specs.Forms.{written}
use Rattle.level_script.proofs.forms.written.Given as goal

abbrev pub invariant-loop-digit : goal.invariant-loop-digit
invariant-loop-digit l = l.value ≡ written (take l.digit-index l.digits)
