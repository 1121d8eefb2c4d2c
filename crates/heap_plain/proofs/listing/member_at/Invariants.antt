use Rattle.std.proofs.Common.{◌≡◌}
use Rattle.heap_plain.specs.Listing.{chained}
use Rattle.heap_plain.proofs.listing.member_at.Given as goal

abbrev pub invariant-loop-j : goal.invariant-loop-j
invariant-loop-j l = l.index ≡ chained l.next l.head l.j
