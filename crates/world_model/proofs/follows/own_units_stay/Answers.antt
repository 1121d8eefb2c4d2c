use Rattle.world_model.proofs.Frames.{own_units_stay_holds}
use Rattle.world_model.proofs.follows.own_units_stay.Goals as goal

pub returns : goal.returns
returns c = own_units_stay_holds
