use Rattle.world_model.proofs.Removals.{named_lives_holds}
use Rattle.world_model.proofs.follows.named_lives.Goals as goal

pub returns : goal.returns
returns c = named_lives_holds
