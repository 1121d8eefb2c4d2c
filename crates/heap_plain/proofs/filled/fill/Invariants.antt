use Rattle.heap_plain.specs.Filling.{Filled}
use Rattle.heap_plain.proofs.filled.fill.Given as goal

abbrev pub invariant-loop-k : goal.invariant-loop-k
invariant-loop-k g l = Filled l.fn.items.items l.items.items l.from l.k (λ k. l.value)
