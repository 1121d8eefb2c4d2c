use Rattle.world_model.proofs.Places.{quotas_hold_holds}
use Rattle.world_model.proofs.follows.quotas_hold.Goals as goal

pub returns : goal.returns
returns c = quotas_hold_holds
