use Rattle.world_model.proofs.Frames.{open_keeps_holds}
use Rattle.world_model.proofs.follows.open_keeps.Goals as goal

pub returns : goal.returns
returns c = open_keeps_holds
