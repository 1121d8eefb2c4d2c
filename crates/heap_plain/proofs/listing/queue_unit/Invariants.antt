use Rattle.std.proofs.Common.{◌≡◌, ◌++◌}
use Rattle.heap_plain.specs.Listing.{chained, chain}
use Rattle.heap_plain.proofs.listing.queue_unit.Given as goal

abbrev pub invariant-loop-k : goal.invariant-loop-k
invariant-loop-k l = record {
  index : l.index ≡ chained l.next l.head l.k;
  queue : l.queue ≡ record (l.fn.queue) { todo = l.fn.queue.todo ++ chain l.next l.head l.k };
}
