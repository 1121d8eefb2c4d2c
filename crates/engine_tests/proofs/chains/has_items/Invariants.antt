use Rattle.std.proofs.Common.{◌≡◌, slice_get}
use Rattle.engine_tests.proofs.chains.has_items.Given as goal

abbrev pub invariant-loop-k : goal.invariant-loop-k
invariant-loop-k l = slice_get l.links.next.items ≡ slice_get l.fn.links.next.items
