use Rattle.std.proofs.Common.{◌≡◌, ◌+◌, true}
use Rattle.mark_core.specs.Machine.{row_bit}
use Rattle.mark_core.specs.Shown.{state}
use Rattle.mark_core.specs.Steps.{none_set}
use Rattle.mark_core.proofs.machine.Machine.is_zero_word.Given as goal

abbrev pub invariant-loop-i : goal.invariant-loop-i
invariant-loop-i l = none_set (λ k. row_bit (state l.self).place l.row (l.first + k)) l.i ≡ true
