use Rattle.world_model.proofs.Partings.{parting_refusals}
use Rattle.world_model.proofs.examples.wrong_partings_are_refused.Goals as goal

pub returns : goal.returns
returns c = parting_refusals
