use Rattle.std.proofs.Common.{◌≡◌, ◌+◌}
use Rattle.mark_core.specs.Shown.{state, sizes}
use Rattle.mark_core.specs.Words.{bits_word, root_bit}
use Rattle.mark_core.proofs.machine.Machine.root_word.Given as goal

abbrev pub invariant-loop-i : goal.invariant-loop-i
invariant-loop-i l = l.bits ≡ bits_word (λ k. root_bit (sizes l.self.shape) (state l.self) (l.first + k)) l.i
