use Rattle.std.proofs.Common.{◌≡◌}
use Rattle.heap_plain.specs.Listing.{chained}
use Rattle.heap_plain.specs.Shading.{InUnit, Shades}
use Rattle.heap_plain.proofs.scanning.shade_unit.Given as goal

abbrev pub invariant-loop-k : goal.invariant-loop-k
invariant-loop-k l = record {
  index : l.index ≡ chained l.next l.head l.k;
  shades : Shades l.names l.firsts (InUnit l.kinds l.slots l.targets l.next l.head l.k) l.pass l.fn.colours l.colours l.fn.diary l.diary;
}
