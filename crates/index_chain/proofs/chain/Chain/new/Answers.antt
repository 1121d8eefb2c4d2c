use Rattle.std.proofs.Common.{refl}
use Rattle.index_chain.specs.Walks.{walk, AreDistinct}
use Rattle.index_chain.proofs.chain.Chain.new.Goals as goal

pub returns-clause-items : goal.returns-clause-items
unfolding walk
returns-clause-items c words = refl

pub returns-clause-chain : goal.returns-clause-chain
unfolding walk AreDistinct
returns-clause-chain c words = record { whole = refl; told = tt; distinct = tt }
