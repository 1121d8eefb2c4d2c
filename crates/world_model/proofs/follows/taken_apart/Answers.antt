use Rattle.world_model.proofs.Dissolving.{taken_apart_holds}
use Rattle.world_model.proofs.follows.taken_apart.Goals as goal

pub returns : goal.returns
returns c = taken_apart_holds
