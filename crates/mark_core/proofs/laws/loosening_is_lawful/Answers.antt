use Rattle.mark_core.proofs.Loosens.{loosened}
use Rattle.mark_core.proofs.laws.loosening_is_lawful.Goals as goal

pub returns : goal.returns
returns c = loosened
