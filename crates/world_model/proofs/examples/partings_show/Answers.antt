use Rattle.world_model.proofs.Partings.{partings_show}
use Rattle.world_model.proofs.examples.partings_show.Goals as goal

pub returns : goal.returns
returns c = partings_show
