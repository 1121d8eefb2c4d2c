use Rattle.world_model.proofs.Worked.{smallest_legal}
use Rattle.world_model.proofs.examples.smallest_is_legal.Goals as goal

pub returns : goal.returns
returns c = smallest_legal
