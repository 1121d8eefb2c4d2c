use Rattle.std.proofs.Common.{◌≡◌}
use Rattle.heap_plain.specs.Stocked.{rising}
use Rattle.heap_plain.proofs.stock.Stock.new.Given as goal

abbrev pub invariant-loop-k : goal.invariant-loop-k
invariant-loop-k l = l.places.items ≡ rising l.first l.k
