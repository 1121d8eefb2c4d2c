use Rattle.std.proofs.Common.{◌≡◌}
use Rattle.heap_plain.specs.Filling.{Filled}
use Rattle.heap_plain.specs.Listing.{chained}
use Rattle.heap_plain.proofs.listing.list_unit.Given as goal

abbrev pub invariant-loop-k : goal.invariant-loop-k
invariant-loop-k l = record {
  index : l.index ≡ chained l.next l.head l.k;
  filled : Filled l.fn.members l.members 0 l.k (chained l.next l.head);
}
