use Rattle.world_model.proofs.Removals.{held_lives_holds}
use Rattle.world_model.proofs.follows.held_lives.Goals as goal

pub returns : goal.returns
returns c = held_lives_holds
