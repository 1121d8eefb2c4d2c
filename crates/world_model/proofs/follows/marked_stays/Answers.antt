use Rattle.world_model.proofs.Staying.{marked_stays_holds}
use Rattle.world_model.proofs.follows.marked_stays.Goals as goal

pub returns : goal.returns
returns c = marked_stays_holds
