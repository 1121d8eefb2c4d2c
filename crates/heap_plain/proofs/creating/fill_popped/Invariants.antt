use Rattle.heap_plain.specs.Filling.{FilledAt}
use Rattle.heap_plain.specs.Stocked.{popped}
use Rattle.heap_plain.proofs.creating.fill_popped.Given as goal

abbrev pub invariant-loop-k : goal.invariant-loop-k
invariant-loop-k g l = FilledAt l.fn.items.items l.items.items (popped l.free.free) l.k (λ k. l.value)
