use Rattle.std.proofs.Common.{◌+◌}
use Rattle.heap_plain.specs.Filling.{Filled}
use Rattle.heap_plain.specs.Stocked.{popped}
use Rattle.heap_plain.proofs.creating.answer.Given as goal

abbrev pub invariant-loop-k : goal.invariant-loop-k
invariant-loop-k l = Filled l.fn.out l.out 0 l.k (λ k. record { index = popped l.free.free k; name = record { lane = l.lane; count = l.first + k } })
