use Rattle.index_chain.proofs.Walking as walking
use Rattle.index_chain.proofs.laws.outside_stays.Goals as goal

pub returns : goal.returns
returns c = walking.outside_stays
