use Rattle.world_model.proofs.Removals.{lives_after_holds}
use Rattle.world_model.proofs.follows.lives_after.Goals as goal

pub returns : goal.returns
returns c = lives_after_holds
