use Rattle.world_model.proofs.Partings.{garbage_kept_legal}
use Rattle.world_model.proofs.examples.garbage_is_legal.Goals as goal

pub returns : goal.returns
returns c = garbage_kept_legal
