use Rattle.std.proofs.Common.{None, add-one, ap, ◌∙◌}
use Rattle.std.specs.Prelude.{slice_set}
use Rattle.world_play.proofs.Keeping.{fill_more}
use Rattle.world_play.proofs.variables.clear.Goals as goal

pub loop-at-preserved : goal.loop-at-preserved
loop-at-preserved c = rw add-one (ap (λ xs. slice_set xs c.loop-at.at None) c.loop-at.invariant ∙ fill_more c.loop-at.at None c.args.slots.now c.loop-at-test.true)
