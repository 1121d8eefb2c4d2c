use Rattle.std.proofs.Common.{get_or}
use Rattle.heap_plain.specs.Filling.{Filled}
use Rattle.heap_plain.proofs.filled.copy.Given as goal

abbrev pub invariant-loop-k : goal.invariant-loop-k
invariant-loop-k l = Filled l.fn.items.items l.items.items 0 l.k (λ k. get_or l.from k 0)
