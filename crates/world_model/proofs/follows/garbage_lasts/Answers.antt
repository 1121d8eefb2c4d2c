use Rattle.world_model.proofs.Invalid.{garbage_lasts_holds}
use Rattle.world_model.proofs.follows.garbage_lasts.Goals as goal

pub returns : goal.returns
returns c = garbage_lasts_holds
