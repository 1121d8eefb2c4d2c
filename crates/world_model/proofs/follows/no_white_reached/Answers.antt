use Rattle.world_model.proofs.Removals.{no_white_reached_holds}
use Rattle.world_model.proofs.follows.no_white_reached.Goals as goal

pub returns : goal.returns
returns c = no_white_reached_holds
