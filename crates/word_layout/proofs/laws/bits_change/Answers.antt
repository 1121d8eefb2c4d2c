use Rattle.word_layout.proofs.Changing as changing
use Rattle.word_layout.proofs.laws.bits_change.Goals as goal

pub returns : goal.returns
returns c = changing.bits_change
