use Rattle.mark_core.proofs.Steps.{run_lawful}
use Rattle.mark_core.proofs.laws.events_stay_lawful.Goals as goal

pub returns : goal.returns
returns c = run_lawful
