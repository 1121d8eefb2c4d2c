use Rattle.world_model.proofs.Between.{calls_end_holds}
use Rattle.world_model.proofs.follows.calls_end.Goals as goal

pub returns : goal.returns
returns c = calls_end_holds
