use Rattle.std.proofs.Common.{◌≡◌, ℕ, ◌<◌, length}
use lib.ListN.{get_or}
use Rattle.mark_core.proofs.flags.zero_all.Given as goal

abbrev pub invariant-loop-i : goal.invariant-loop-i
invariant-loop-i l = record {
  length : length l.stamps.items ≡ length l.fn.stamps.items;
  zero : (k : ℕ) → k < l.i → get_or l.stamps.items k 0 ≡ 0;
}
