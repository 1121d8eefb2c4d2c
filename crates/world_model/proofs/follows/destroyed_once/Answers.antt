use Rattle.world_model.proofs.Stages.{destroyed_once_holds}
use Rattle.world_model.proofs.follows.destroyed_once.Goals as goal

pub returns : goal.returns
returns c = destroyed_once_holds
