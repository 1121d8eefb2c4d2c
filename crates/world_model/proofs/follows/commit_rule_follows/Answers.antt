use Rattle.world_model.proofs.Removals.{commit_rule_follows_holds}
use Rattle.world_model.proofs.follows.commit_rule_follows.Goals as goal

pub returns : goal.returns
returns c = commit_rule_follows_holds
