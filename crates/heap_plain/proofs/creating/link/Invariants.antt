use Rattle.std.proofs.Common.{◌+◌}
use Rattle.heap_plain.specs.Filling.{FilledAt}
use Rattle.heap_plain.specs.Stocked.{popped}
use Rattle.heap_plain.proofs.creating.link.Given as goal

abbrev pub invariant-loop-k : goal.invariant-loop-k
invariant-loop-k l = FilledAt l.fn.next.items l.next.items (popped l.free.free) l.k (λ k. popped l.free.free (k + 1))
