use Rattle.std.proofs.Common.{◌≡◌}
use Rattle.heap_plain.specs.Listing.{chained}
use Rattle.heap_plain.specs.Purging.{give_all}
use Rattle.heap_plain.proofs.purging.release.Given as goal

abbrev pub invariant-loop-k : goal.invariant-loop-k
invariant-loop-k l = record {
  index : l.index ≡ chained l.next l.head l.k;
  given : record { names = l.names.items; lives = l.lives.items; stocks = l.stocks.items }
      ≡ give_all (record { names = l.fn.names.items; lives = l.fn.lives.items; stocks = l.fn.stocks.items }) l.next l.head l.k;
}
