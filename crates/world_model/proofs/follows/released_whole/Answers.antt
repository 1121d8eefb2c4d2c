use Rattle.world_model.proofs.Stages.{released_whole_holds}
use Rattle.world_model.proofs.follows.released_whole.Goals as goal

pub returns : goal.returns
returns c = released_whole_holds
