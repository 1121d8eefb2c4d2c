use Rattle.std.proofs.Common.{◌≡◌, replicate}
use Rattle.level_script.specs.Lanes.{closed_lane}
use Rattle.level_script.proofs.lanes.Lanes.new.Given as goal

abbrev pub invariant-loop : goal.invariant-loop
invariant-loop l = l.items.items ≡ replicate l.counter closed_lane
