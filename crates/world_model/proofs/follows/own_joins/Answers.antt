use Rattle.world_model.proofs.Frames.{own_joins_holds}
use Rattle.world_model.proofs.follows.own_joins.Goals as goal

pub returns : goal.returns
returns c = own_joins_holds
