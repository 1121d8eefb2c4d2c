use Rattle.mark_core.proofs.Clears.{cleared}
use Rattle.mark_core.proofs.laws.clearing_is_lawful.Goals as goal

pub returns : goal.returns
returns c = cleared
