use Rattle.world_model.proofs.Apart.{garbage_decides_nothing_holds}
use Rattle.world_model.proofs.follows.garbage_decides_nothing.Goals as goal

pub returns : goal.returns
returns c = garbage_decides_nothing_holds
