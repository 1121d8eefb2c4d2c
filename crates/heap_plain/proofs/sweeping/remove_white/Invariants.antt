use Rattle.heap_plain.specs.Sweeping.{Removes}
use Rattle.heap_plain.proofs.sweeping.remove_white.Given as goal

abbrev pub invariant-loop-i : goal.invariant-loop-i
invariant-loop-i l = Removes l.firsts l.colours.marked l.fn.lives.items l.lives.items l.i
