use Rattle.mark_core.proofs.Bits.{bits_follow}
use Rattle.mark_core.proofs.laws.bits_follow.Goals as goal

pub returns : goal.returns
returns c = bits_follow
