use Rattle.std.proofs.Common.{refl, sym, subst}
use Rattle.index_chain.specs.Walks.{Words, IsTold}
use Rattle.engine_tests.proofs.chains.words_name_the_next_items.Goals as goal

pub next-requires : goal.next-requires
next-requires g c = subst (λ (w : Words). IsTold w 3) (sym c.set_next.ensures.now) refl
