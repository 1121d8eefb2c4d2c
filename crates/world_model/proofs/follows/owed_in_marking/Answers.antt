use Rattle.world_model.proofs.Staying.{owed_in_marking_holds}
use Rattle.world_model.proofs.follows.owed_in_marking.Goals as goal

pub returns : goal.returns
returns c = owed_in_marking_holds
