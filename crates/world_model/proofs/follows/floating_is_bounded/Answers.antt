use Rattle.world_model.proofs.Floating.{floating_is_bounded_holds}
use Rattle.world_model.proofs.follows.floating_is_bounded.Goals as goal

pub returns : goal.returns
returns c = floating_is_bounded_holds
