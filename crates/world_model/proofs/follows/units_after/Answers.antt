use Rattle.world_model.proofs.Afters.{units_after_holds}
use Rattle.world_model.proofs.follows.units_after.Goals as goal

pub returns : goal.returns
returns c = units_after_holds
