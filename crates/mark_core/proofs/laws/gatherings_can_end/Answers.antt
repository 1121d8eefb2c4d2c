use Rattle.mark_core.proofs.Ends.{gatherings_can_end}
use Rattle.mark_core.proofs.laws.gatherings_can_end.Goals as goal

pub returns : goal.returns
returns c = gatherings_can_end
