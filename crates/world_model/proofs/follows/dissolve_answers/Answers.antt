use Rattle.world_model.proofs.Answering.{dissolve_answers_holds}
use Rattle.world_model.proofs.follows.dissolve_answers.Goals as goal

pub returns : goal.returns
returns c = dissolve_answers_holds
