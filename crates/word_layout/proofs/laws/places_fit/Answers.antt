use Rattle.word_layout.proofs.Apart as apart
use Rattle.word_layout.proofs.laws.places_fit.Goals as goal

pub returns : goal.returns
returns c = apart.places_fit
