use Rattle.std.proofs.Common.{◌≡◌, ℕ, ◌<◌, true, false, length}
use lib.ListN.{get_or}
use Rattle.mark_core.proofs.colours.all_in.Given as goal

abbrev pub invariant-loop-i : goal.invariant-loop-i
invariant-loop-i l = record {
  len : length l.all ≡ l.bound;
  all_in : (k : ℕ) → k < l.i → get_or l.all k false ≡ true;
}
