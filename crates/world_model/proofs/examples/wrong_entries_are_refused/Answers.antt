use Rattle.world_model.proofs.Refused.{refusals}
use Rattle.world_model.proofs.examples.wrong_entries_are_refused.Goals as goal

pub returns : goal.returns
returns c = refusals
