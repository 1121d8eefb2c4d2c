use Rattle.world_model.proofs.Frames.{unit_stays_holds}
use Rattle.world_model.proofs.follows.unit_stays.Goals as goal

pub returns : goal.returns
returns c = unit_stays_holds
