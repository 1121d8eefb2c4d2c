use Rattle.word_layout.proofs.Changing as changing
use Rattle.word_layout.proofs.laws.frames_add.Goals as goal

pub returns : goal.returns
returns c = changing.frames_add
