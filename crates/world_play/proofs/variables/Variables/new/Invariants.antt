use Rattle.std.proofs.Common.{take}
use Rattle.world_play.proofs.Keeping.{AreFresh}
use Rattle.world_play.proofs.variables.Variables.new.Given as goal

abbrev pub invariant-loop-count : goal.invariant-loop-count
invariant-loop-count l = AreFresh l.lanes.items (take l.count-index l.counts)
