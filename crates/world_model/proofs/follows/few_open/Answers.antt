use Rattle.world_model.proofs.Frames.{few_open_holds}
use Rattle.world_model.proofs.follows.few_open.Goals as goal

pub returns : goal.returns
returns c = few_open_holds
