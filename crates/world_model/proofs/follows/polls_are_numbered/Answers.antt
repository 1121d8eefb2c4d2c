use Rattle.world_model.proofs.Polls.{polls_are_numbered_holds}
use Rattle.world_model.proofs.follows.polls_are_numbered.Goals as goal

pub returns : goal.returns
returns c = polls_are_numbered_holds
