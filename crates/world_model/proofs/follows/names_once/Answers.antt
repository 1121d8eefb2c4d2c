use Rattle.world_model.proofs.Places.{names_once_holds}
use Rattle.world_model.proofs.follows.names_once.Goals as goal

pub returns : goal.returns
returns c = names_once_holds
