use Rattle.world_model.proofs.Removals.{start_marks_roots_holds}
use Rattle.world_model.proofs.follows.start_marks_roots.Goals as goal

pub returns : goal.returns
returns c = start_marks_roots_holds
