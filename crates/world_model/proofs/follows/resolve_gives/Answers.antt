use Rattle.world_model.proofs.Pairs.{resolve_gives_holds}
use Rattle.world_model.proofs.follows.resolve_gives.Goals as goal

pub returns : goal.returns
returns c = resolve_gives_holds
