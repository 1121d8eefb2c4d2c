use Rattle.std.proofs.Common.{◌≡◌, ◌+◌, ◌∷◌, sym, subst, Some}
use Rattle.index_chain.specs.Walks.{Words, items, IsChain, Stays}
use Rattle.index_chain.proofs.Walking.{pushed, pushed_whole, outside_stays}
use Rattle.index_chain.proofs.calls.push_front.Goals as goal

pub returns-clause-items : goal.returns-clause-items
returns-clause-items g c =
    let words = g.L.Links.words c.args.links.now in
    let i = c.args.i in
    subst (λ (w : Words). items w (record { first = Some i; count = c.args.chain.count + 1 }) ≡ i ∷ items words c.args.chain) (sym c.set_next.ensures.now) (pushed words c.args.chain i c.requires.new)

pub returns-clause-chain : goal.returns-clause-chain
returns-clause-chain g c =
    let words = g.L.Links.words c.args.links.now in
    let i = c.args.i in
    subst (λ (w : Words). IsChain w (record { first = Some i; count = c.args.chain.count + 1 })) (sym c.set_next.ensures.now)
    (pushed_whole words c.args.chain i c.requires.told c.requires.new c.requires.chain)

pub returns-clause-others : goal.returns-clause-others
returns-clause-others g c other out whole =
    let words = g.L.Links.words c.args.links.now in
    subst (λ (w : Words). Stays words w other) (sym c.set_next.ensures.now) (outside_stays words other c.args.i c.args.chain.first out whole)
