use Rattle.world_model.proofs.Standings.{begun_behind_gathering_holds}
use Rattle.world_model.proofs.follows.begun_behind_gathering.Goals as goal

pub returns : goal.returns
returns c = begun_behind_gathering_holds
