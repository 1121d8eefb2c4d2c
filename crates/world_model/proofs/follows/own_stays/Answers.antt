use Rattle.world_model.proofs.Frames.{own_stays_holds}
use Rattle.world_model.proofs.follows.own_stays.Goals as goal

pub returns : goal.returns
returns c = own_stays_holds
