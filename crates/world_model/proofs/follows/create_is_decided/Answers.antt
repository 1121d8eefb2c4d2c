use Rattle.world_model.proofs.Decided.{create_is_decided_holds}
use Rattle.world_model.proofs.follows.create_is_decided.Goals as goal

pub returns : goal.returns
returns c = create_is_decided_holds
