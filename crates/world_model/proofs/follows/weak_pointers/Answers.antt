use Rattle.world_model.proofs.Pairs.{weak_pointers_holds}
use Rattle.world_model.proofs.follows.weak_pointers.Goals as goal

pub returns : goal.returns
returns c = weak_pointers_holds
