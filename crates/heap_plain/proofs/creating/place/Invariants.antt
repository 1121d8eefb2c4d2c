use Rattle.std.proofs.Common.{◌+◌, Some}
use Rattle.heap_plain.specs.Filling.{FilledAt}
use Rattle.heap_plain.specs.Stocked.{popped}
use Rattle.heap_plain.proofs.creating.place.Given as goal

abbrev pub invariant-loop-k : goal.invariant-loop-k
invariant-loop-k l = FilledAt l.fn.names.items l.names.items (popped l.free.free) l.k (λ k. Some (record { lane = l.lane; count = l.first + k }))
