use Rattle.world_model.proofs.Removals.{black_refers_holds}
use Rattle.world_model.proofs.follows.black_refers_to_marked.Goals as goal

pub returns : goal.returns
returns c = black_refers_holds
