use Rattle.std.proofs.Common.{◌≡◌}
use Rattle.heap_plain.specs.Listing.{chained, chain}
use Rattle.heap_plain.specs.Serials.{all_cleared}
use Rattle.heap_plain.proofs.serials.Serials.clear.Given as goal

abbrev pub invariant-loop-k : goal.invariant-loop-k
invariant-loop-k l = record {
  index : l.index ≡ chained l.next l.head l.k;
  serials : l.self-inside.serials.items ≡ all_cleared l.fn.self.serials (chain l.next l.head l.k);
  drawn : l.self-inside.drawn.items ≡ l.fn.self.drawn;
}
