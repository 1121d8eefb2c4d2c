use Rattle.world_model.proofs.Pairs.{resolve_gives_none_again_holds}
use Rattle.world_model.proofs.follows.resolve_gives_none_again.Goals as goal

pub returns : goal.returns
returns c = resolve_gives_none_again_holds
