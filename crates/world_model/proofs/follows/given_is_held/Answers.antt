use Rattle.world_model.proofs.Giving.{given_is_held_holds}
use Rattle.world_model.proofs.follows.given_is_held.Goals as goal

pub returns : goal.returns
returns c = given_is_held_holds
