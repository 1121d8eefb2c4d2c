use Rattle.world_model.proofs.Invalid.{garbage_is_marked_holds}
use Rattle.world_model.proofs.follows.garbage_is_marked.Goals as goal

pub returns : goal.returns
returns c = garbage_is_marked_holds
