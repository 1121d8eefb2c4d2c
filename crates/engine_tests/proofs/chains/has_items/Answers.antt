use Rattle.std.proofs.Common.{sym, ◌∙◌, subst}
use Rattle.index_chain.specs.Walks.{Words, IsChain}
use Rattle.engine_tests.proofs.chains.has_items.Goals as goal

pub at-item-requires-clause-chain : goal.at-item-requires-clause-chain
at-item-requires-clause-chain c = subst (λ (w : Words). IsChain w c.args.chain) (sym c.loop-k.invariant) c.requires

pub loop-k-preserved : goal.loop-k-preserved
loop-k-preserved c = c.at-item.ensures.words ∙ c.loop-k.invariant
