use Rattle.mark_core.proofs.Ends.{markings_can_end}
use Rattle.mark_core.proofs.laws.markings_can_end.Goals as goal

pub returns : goal.returns
returns c = markings_can_end
