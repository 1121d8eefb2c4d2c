use Rattle.world_model.proofs.Leaving.{collectors_stay_holds}
use Rattle.world_model.proofs.follows.collectors_stay.Goals as goal

pub returns : goal.returns
returns c = collectors_stay_holds
