use Rattle.world_model.proofs.Polls.{finished_behind_poll_holds}
use Rattle.world_model.proofs.follows.finished_behind_poll.Goals as goal

pub returns : goal.returns
returns c = finished_behind_poll_holds
