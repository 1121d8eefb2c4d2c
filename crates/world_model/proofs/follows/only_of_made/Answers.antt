use Rattle.world_model.proofs.Standings.{only_of_made_holds}
use Rattle.world_model.proofs.follows.only_of_made.Goals as goal

pub returns : goal.returns
returns c = only_of_made_holds
