use Rattle.world_model.proofs.Pairs.{none_comes_back_holds}
use Rattle.world_model.proofs.follows.none_comes_back.Goals as goal

pub returns : goal.returns
returns c = none_comes_back_holds
