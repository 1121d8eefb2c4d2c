use Rattle.world_model.proofs.Removals.{roots_stay_marked_holds}
use Rattle.world_model.proofs.follows.roots_stay_marked.Goals as goal

pub returns : goal.returns
returns c = roots_stay_marked_holds
