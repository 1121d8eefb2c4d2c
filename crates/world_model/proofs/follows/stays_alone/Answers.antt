use Rattle.world_model.proofs.Dissolving.{stays_alone_holds}
use Rattle.world_model.proofs.follows.stays_alone.Goals as goal

pub returns : goal.returns
returns c = stays_alone_holds
