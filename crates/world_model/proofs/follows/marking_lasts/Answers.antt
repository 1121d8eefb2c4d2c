use Rattle.world_model.proofs.Staying.{marking_lasts_holds}
use Rattle.world_model.proofs.follows.marking_lasts.Goals as goal

pub returns : goal.returns
returns c = marking_lasts_holds
