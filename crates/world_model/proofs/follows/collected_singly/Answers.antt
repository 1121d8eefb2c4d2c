use Rattle.world_model.proofs.Dissolving.{collected_singly_holds}
use Rattle.world_model.proofs.follows.collected_singly.Goals as goal

pub returns : goal.returns
returns c = collected_singly_holds
