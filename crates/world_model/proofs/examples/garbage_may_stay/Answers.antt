use Rattle.world_model.proofs.Garbage.{garbage_stays}
use Rattle.world_model.proofs.examples.garbage_may_stay.Goals as goal

pub returns : goal.returns
returns c = garbage_stays
