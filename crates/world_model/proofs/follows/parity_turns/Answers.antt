use Rattle.world_model.proofs.Staying.{parity_turns_holds}
use Rattle.world_model.proofs.follows.parity_turns.Goals as goal

pub returns : goal.returns
returns c = parity_turns_holds
