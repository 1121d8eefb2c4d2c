use Rattle.std.proofs.Common.{◌≡◌}
use Rattle.heap_plain.specs.Stocked.{full_stocks}
use Rattle.heap_plain.proofs.stock.full_stocks.Given as goal

abbrev pub invariant-loop-lane : goal.invariant-loop-lane
invariant-loop-lane l = l.all.items ≡ full_stocks l.quota l.lane
