use Rattle.heap_plain.specs.Filling.{FilledAt}
use Rattle.heap_plain.specs.Parts.{kind_at}
use Rattle.heap_plain.specs.Stocked.{popped}
use Rattle.heap_plain.proofs.creating.classify.Given as goal

abbrev pub invariant-loop-k : goal.invariant-loop-k
invariant-loop-k l = FilledAt l.fn.stored.items l.stored.items (popped l.free.free) l.k (kind_at l.kinds)
