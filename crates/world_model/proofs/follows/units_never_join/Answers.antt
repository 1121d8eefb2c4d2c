use Rattle.world_model.proofs.Frames.{units_never_join_holds}
use Rattle.world_model.proofs.follows.units_never_join.Goals as goal

pub returns : goal.returns
returns c = units_never_join_holds
