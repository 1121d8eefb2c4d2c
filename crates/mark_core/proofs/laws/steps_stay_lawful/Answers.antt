use Rattle.mark_core.proofs.Steps.{step_lawful}
use Rattle.mark_core.proofs.laws.steps_stay_lawful.Goals as goal

pub returns : goal.returns
returns c = step_lawful
