use Rattle.world_model.proofs.Decided.{refusals_change_nothing_holds}
use Rattle.world_model.proofs.follows.refusals_change_nothing.Goals as goal

pub returns : goal.returns
returns c = refusals_change_nothing_holds
