use Rattle.mark_core.proofs.Makes.{made}
use Rattle.mark_core.proofs.laws.making_is_lawful.Goals as goal

pub returns : goal.returns
returns c = made
