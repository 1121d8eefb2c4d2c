use Rattle.heap_plain.specs.Shading.{InRow, Shades}
use Rattle.heap_plain.proofs.scanning.shade_row.Given as goal

abbrev pub invariant-loop-slot : goal.invariant-loop-slot
invariant-loop-slot l = Shades l.names l.firsts (InRow l.targets l.row l.slot) l.pass l.fn.colours l.colours l.fn.diary l.diary
