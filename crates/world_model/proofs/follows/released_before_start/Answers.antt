use Rattle.world_model.proofs.Stages.{released_before_start_holds}
use Rattle.world_model.proofs.follows.released_before_start.Goals as goal

pub returns : goal.returns
returns c = released_before_start_holds
