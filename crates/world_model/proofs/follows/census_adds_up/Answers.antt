use Rattle.world_model.proofs.Places.{census_adds_up_holds}
use Rattle.world_model.proofs.follows.census_adds_up.Goals as goal

pub returns : goal.returns
returns c = census_adds_up_holds
