use Rattle.std.proofs.Common.{◌≡◌, ◌+◌, ◌-◌, ◌≤◌, length, take, drop}
use Rattle.heap_plain.specs.Sweeping.{removed_names}
use Rattle.heap_plain.proofs.sweeping.find_removed.Given as goal

abbrev pub invariant-loop-looked : goal.invariant-loop-looked
invariant-loop-looked l = record {
  found : take l.count l.found ≡ removed_names l.names l.lives l.from l.looked;
  rest : drop l.count l.found ≡ drop l.count l.fn.found;
  room : l.count ≤ length l.fn.found;
  few : l.count ≤ l.looked;
  within : l.looked ≤ l.budget;
  range : l.from + l.looked ≤ length l.lives;
}

abbrev pub decreases-loop-looked : goal.decreases-loop-looked
decreases-loop-looked l = l.budget - l.looked
