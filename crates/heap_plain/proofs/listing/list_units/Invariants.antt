use Rattle.std.proofs.Common.{◌≡◌, ◌++◌}
use Rattle.heap_plain.specs.Listing.{units_at}
use Rattle.heap_plain.proofs.listing.list_units.Given as goal

abbrev pub invariant-loop-k : goal.invariant-loop-k
invariant-loop-k l = l.queue ≡ record (l.fn.queue) { todo = l.fn.queue.todo ++ units_at l.lives l.firsts l.sizes l.next l.from l.k }
