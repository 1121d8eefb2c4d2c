use Rattle.std.proofs.Common.{sym, ◌∙◌, subst}
use Rattle.index_chain.specs.Walks.{Words, IsChain}
use Rattle.engine_tests.proofs.chains.a_chain_is_parted.Goals as goal

pub has_items-requires-2 : goal.has_items-requires-2
has_items-requires-2 g c = subst (λ (w : Words). IsChain w c.take_front.result.1) (sym (c.has_items.ensures ∙ c.take_front.ensures.words)) c.take_front.ensures.rest_chain
