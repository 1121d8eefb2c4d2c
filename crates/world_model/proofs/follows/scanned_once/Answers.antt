use Rattle.world_model.proofs.Scanning.{scanned_once_holds}
use Rattle.world_model.proofs.follows.scanned_once.Goals as goal

pub returns : goal.returns
returns c = scanned_once_holds
