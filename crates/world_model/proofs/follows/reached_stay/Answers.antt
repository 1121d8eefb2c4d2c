use Rattle.world_model.proofs.Removals.{reached_stay_holds}
use Rattle.world_model.proofs.follows.reached_stay.Goals as goal

pub returns : goal.returns
returns c = reached_stay_holds
