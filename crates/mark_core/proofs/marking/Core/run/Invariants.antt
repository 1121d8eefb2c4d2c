use Rattle.std.proofs.Common.{take}
use Rattle.mark_core.specs.Runs.{AreDone}
use Rattle.mark_core.proofs.marking.Core.run.Given as goal

abbrev pub invariant-loop-k : goal.invariant-loop-k
invariant-loop-k l = AreDone l.fn.self (take l.k l.events) l.self
