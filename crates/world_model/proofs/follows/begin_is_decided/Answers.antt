use Rattle.world_model.proofs.Decided.{begin_is_decided_holds}
use Rattle.world_model.proofs.follows.begin_is_decided.Goals as goal

pub returns : goal.returns
returns c = begin_is_decided_holds
