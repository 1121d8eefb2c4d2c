use Rattle.std.proofs.Common.{◌-◌, ◌+◌, length}
use Rattle.level_script.specs.Names.{AreSame}
use Rattle.level_script.proofs.names.reach.Given as goal

abbrev pub invariant-loop-rounds : goal.invariant-loop-rounds
invariant-loop-rounds l = AreSame l.fn.rounds.items l.rounds.items

abbrev pub decreases-loop-rounds : goal.decreases-loop-rounds
decreases-loop-rounds l = l.at + 1 - length l.rounds.items
