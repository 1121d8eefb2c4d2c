use Rattle.world_model.proofs.Turns.{asked_in_turn_holds}
use Rattle.world_model.proofs.follows.asked_in_turn.Goals as goal

pub returns : goal.returns
returns c = asked_in_turn_holds
