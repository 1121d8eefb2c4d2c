use Rattle.word_layout.proofs.Filled.{rows_reach}
use Rattle.word_layout.proofs.laws.rows_reach.Goals as goal

pub returns : goal.returns
returns c = rows_reach
