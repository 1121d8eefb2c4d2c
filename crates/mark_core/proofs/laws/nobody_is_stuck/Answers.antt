use Rattle.mark_core.proofs.Stuck.{nobody_is_stuck}
use Rattle.mark_core.proofs.laws.nobody_is_stuck.Goals as goal

pub returns : goal.returns
returns c = nobody_is_stuck
