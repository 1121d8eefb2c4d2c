use Rattle.world_model.proofs.Stages.{begun_when_finished_holds}
use Rattle.world_model.proofs.follows.begun_when_finished.Goals as goal

pub returns : goal.returns
returns c = begun_when_finished_holds
