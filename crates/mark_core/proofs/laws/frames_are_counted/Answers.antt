use Rattle.mark_core.proofs.Frames.{frames_counted}
use Rattle.mark_core.proofs.laws.frames_are_counted.Goals as goal

pub returns : goal.returns
returns c = frames_counted
