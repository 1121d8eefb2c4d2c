use Rattle.word_layout.proofs.Filled.{places_fill}
use Rattle.word_layout.proofs.laws.places_fill.Goals as goal

pub returns : goal.returns
returns c = places_fill
