use Rattle.world_model.proofs.Headlines.{headline_holds}
use Rattle.world_model.proofs.follows.headline.Goals as goal

pub returns : goal.returns
returns c = headline_holds
