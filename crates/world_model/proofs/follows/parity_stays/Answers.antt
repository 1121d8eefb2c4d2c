use Rattle.world_model.proofs.Staying.{parity_stays_holds}
use Rattle.world_model.proofs.follows.parity_stays.Goals as goal

pub returns : goal.returns
returns c = parity_stays_holds
