use Rattle.std.proofs.Common.{◌≡◌, replicate, false}
use Rattle.mark_core.proofs.places.sets.Given as goal

abbrev pub invariant-loop-i : goal.invariant-loop-i
invariant-loop-i l = l.all.items ≡ replicate l.i (replicate l.bound false)
