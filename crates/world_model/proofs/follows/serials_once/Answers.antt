use Rattle.world_model.proofs.Pairs.{serials_once_holds}
use Rattle.world_model.proofs.follows.serials_once.Goals as goal

pub returns : goal.returns
returns c = serials_once_holds
