use Rattle.world_model.proofs.Stages.{destroyed_by_stage_holds}
use Rattle.world_model.proofs.follows.destroyed_by_stage.Goals as goal

pub returns : goal.returns
returns c = destroyed_by_stage_holds
