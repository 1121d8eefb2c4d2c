use Rattle.world_model.proofs.Standings.{named_from_places_holds}
use Rattle.world_model.proofs.follows.named_from_places.Goals as goal

pub returns : goal.returns
returns c = named_from_places_holds
