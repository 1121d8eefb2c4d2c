use Rattle.world_model.proofs.Reached as reached
use Rattle.world_model.proofs.laws.reach_by_steps.Goals as goal

pub returns : goal.returns
returns c = reached.reach_by_steps
