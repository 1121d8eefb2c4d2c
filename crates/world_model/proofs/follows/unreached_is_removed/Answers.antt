use Rattle.world_model.proofs.Floating.{unreached_is_removed_holds}
use Rattle.world_model.proofs.follows.unreached_is_removed.Goals as goal

pub returns : goal.returns
returns c = unreached_is_removed_holds
