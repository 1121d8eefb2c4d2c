use Rattle.world_model.proofs.Partings.{pair_apart_legal}
use Rattle.world_model.proofs.examples.late_parting_is_legal.Goals as goal

pub returns : goal.returns
returns c = pair_apart_legal
