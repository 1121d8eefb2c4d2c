use Rattle.word_layout.proofs.Apart as apart
use Rattle.word_layout.proofs.laws.places_differ.Goals as goal

pub returns : goal.returns
returns c = apart.places_differ
