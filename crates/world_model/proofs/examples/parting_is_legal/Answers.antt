use Rattle.world_model.proofs.Partings.{singles_removed_legal}
use Rattle.world_model.proofs.examples.parting_is_legal.Goals as goal

pub returns : goal.returns
returns c = singles_removed_legal
