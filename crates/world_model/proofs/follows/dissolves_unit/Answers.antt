use Rattle.world_model.proofs.Dissolving.{dissolves_unit_holds}
use Rattle.world_model.proofs.follows.dissolves_unit.Goals as goal

pub returns : goal.returns
returns c = dissolves_unit_holds
