use Rattle.world_model.proofs.Standings.{kinds_stay_holds}
use Rattle.world_model.proofs.follows.kinds_stay.Goals as goal

pub returns : goal.returns
returns c = kinds_stay_holds
