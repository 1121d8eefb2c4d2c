use Rattle.std.proofs.Common.{◌∙◌}
use Rattle.engine_tests.proofs.Opened.{same_by_resolve}
use Rattle.engine_tests.proofs.pointers.none_gives.Goals as goal

pub loop-n-preserved : goal.loop-n-preserved
loop-n-preserved g c = record { opened = same_by_resolve c.resolve.ensures.entries ∙ c.loop-n.invariant.opened }
