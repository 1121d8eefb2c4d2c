use Rattle.world_model.proofs.Collections.{collect_is_exact_holds}
use Rattle.world_model.proofs.laws.collect_is_exact.Goals as goal

pub returns : goal.returns
returns c = collect_is_exact_holds
