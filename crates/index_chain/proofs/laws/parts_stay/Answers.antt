use Rattle.index_chain.proofs.Walking as walking
use Rattle.index_chain.proofs.laws.parts_stay.Goals as goal

pub returns : goal.returns
returns c = walking.parts_stay
