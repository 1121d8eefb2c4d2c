use Rattle.heap_plain.specs.Types.{Collector}
use Rattle.heap_plain.specs.Shading.{InStrong, Shades}
use Rattle.heap_plain.proofs.scanning.shade_strong.Given as goal

abbrev pub invariant-loop-lane : goal.invariant-loop-lane
invariant-loop-lane l = Shades l.names l.firsts (InStrong l.strong l.each l.lane) Collector l.fn.colours l.colours l.fn.diary l.diary
