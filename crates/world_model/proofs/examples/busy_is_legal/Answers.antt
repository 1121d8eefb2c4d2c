use Rattle.world_model.proofs.Busy.{busy_legal}
use Rattle.world_model.proofs.examples.busy_is_legal.Goals as goal

pub returns : goal.returns
returns c = busy_legal
