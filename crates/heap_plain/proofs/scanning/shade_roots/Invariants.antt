use Rattle.heap_plain.specs.Types.{Collector}
use Rattle.heap_plain.specs.Shading.{InRoots, Shades}
use Rattle.heap_plain.proofs.scanning.shade_roots.Given as goal

abbrev pub invariant-loop-i : goal.invariant-loop-i
invariant-loop-i l = Shades l.names l.firsts (InRoots l.roots l.i) Collector l.fn.colours l.colours l.fn.diary l.diary
