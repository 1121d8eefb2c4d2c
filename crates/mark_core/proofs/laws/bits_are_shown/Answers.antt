use Rattle.mark_core.proofs.Ones.{bits_are_shown}
use Rattle.mark_core.proofs.laws.bits_are_shown.Goals as goal

pub returns : goal.returns
returns c = bits_are_shown
