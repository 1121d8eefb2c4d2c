use Rattle.world_model.proofs.Leaving.{markers_stay_holds}
use Rattle.world_model.proofs.follows.markers_stay.Goals as goal

pub returns : goal.returns
returns c = markers_stay_holds
