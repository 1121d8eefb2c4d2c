use Rattle.world_model.proofs.Sharp.{are_sharp}
use Rattle.world_model.proofs.examples.laws_are_sharp.Goals as goal

pub returns : goal.returns
returns c = are_sharp
