use Rattle.std.proofs.Common.{◌≡◌, ◌+◌}
use Rattle.mark_core.specs.Machine.{row_bit}
use Rattle.mark_core.specs.Shown.{state}
use Rattle.mark_core.specs.Words.{bits_word}
use Rattle.mark_core.proofs.machine.Machine.row_word.Given as goal

abbrev pub invariant-loop-i : goal.invariant-loop-i
invariant-loop-i l = l.bits ≡ bits_word (λ k. row_bit (state l.self).place l.row (l.first + k)) l.i
