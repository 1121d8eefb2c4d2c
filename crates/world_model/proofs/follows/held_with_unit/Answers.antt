use Rattle.world_model.proofs.Holding.{held_with_unit_holds}
use Rattle.world_model.proofs.follows.held_with_unit.Goals as goal

pub returns : goal.returns
returns c = held_with_unit_holds
