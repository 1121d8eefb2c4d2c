use Rattle.world_play.proofs.Telling.{one_text_holds}
use Rattle.world_play.proofs.laws.one_text.Goals as goal

pub returns : goal.returns
returns c = one_text_holds
