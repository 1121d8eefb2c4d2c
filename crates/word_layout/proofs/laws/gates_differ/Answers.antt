use Rattle.word_layout.proofs.Different as different
use Rattle.word_layout.proofs.laws.gates_differ.Goals as goal

pub returns : goal.returns
returns c = different.gates
