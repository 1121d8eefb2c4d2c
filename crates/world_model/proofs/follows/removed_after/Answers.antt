use Rattle.world_model.proofs.Afters.{removed_after_holds}
use Rattle.world_model.proofs.follows.removed_after.Goals as goal

pub returns : goal.returns
returns c = removed_after_holds
