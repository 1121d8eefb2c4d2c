use Rattle.world_model.proofs.Stages.{all_begun_first_holds}
use Rattle.world_model.proofs.follows.all_begun_first.Goals as goal

pub returns : goal.returns
returns c = all_begun_first_holds
