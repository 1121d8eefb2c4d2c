use Rattle.word_layout.proofs.Changing as changing
use Rattle.word_layout.proofs.laws.phase_changes.Goals as goal

pub returns : goal.returns
returns c = changing.phase
