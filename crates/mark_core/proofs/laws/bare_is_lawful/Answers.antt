use Rattle.mark_core.proofs.Starts.{bare_lawful}
use Rattle.mark_core.proofs.laws.bare_is_lawful.Goals as goal

pub returns : goal.returns
returns c = bare_lawful
