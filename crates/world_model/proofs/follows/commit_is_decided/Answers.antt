use Rattle.world_model.proofs.Decided.{commit_is_decided_holds}
use Rattle.world_model.proofs.follows.commit_is_decided.Goals as goal

pub returns : goal.returns
returns c = commit_is_decided_holds
