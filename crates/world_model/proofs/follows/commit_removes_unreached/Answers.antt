use Rattle.world_model.proofs.Removals.{commit_removes_unreached_holds}
use Rattle.world_model.proofs.follows.commit_removes_unreached.Goals as goal

pub returns : goal.returns
returns c = commit_removes_unreached_holds
