use Rattle.world_model.proofs.Apart.{marks_change_nothing_holds}
use Rattle.world_model.proofs.follows.marks_change_nothing.Goals as goal

pub returns : goal.returns
returns c = marks_change_nothing_holds
