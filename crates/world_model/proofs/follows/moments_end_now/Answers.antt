use Rattle.world_model.proofs.Standings.{moments_end_now_holds}
use Rattle.world_model.proofs.follows.moments_end_now.Goals as goal

pub returns : goal.returns
returns c = moments_end_now_holds
