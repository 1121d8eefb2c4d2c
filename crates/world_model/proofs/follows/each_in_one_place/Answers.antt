use Rattle.world_model.proofs.Places.{each_in_one_place_holds}
use Rattle.world_model.proofs.follows.each_in_one_place.Goals as goal

pub returns : goal.returns
returns c = each_in_one_place_holds
