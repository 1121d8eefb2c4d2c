use Rattle.std.proofs.Common.{◌≡◌, ◌+◌, ◌-◌, [], ◌∷◌, ◌++◌, sym, ap, ◌∙◌, subst, arith}
use Rattle.index_chain.specs.Walks.{Words, IsTold, with_next, items, IsChain, Stays}
use Rattle.index_chain.specs.Calls.{with_end, join_write}
use Rattle.index_chain.proofs.Walking.{end_is_last, both, both_whole, joined_some, joined_none, joined_stays, place_told}
use Rattle.index_chain.proofs.Writes.{end_write-last, join_write-some, join_write-none, join_write-one}
use Rattle.index_chain.proofs.calls.append.Goals as goal

pub returns-then-front-eq0-clause-words : goal.returns-then-front-eq0-clause-words
returns-then-front-eq0-clause-words g c =
    let words = g.L.Links.words c.args.links.now in
    let whole = c.requires.front.whole in
    let none = c.if-front-eq0.true in
    sym (joined_none words (items words c.args.front) (items words c.args.back) c.args.back.first (omega arith))

pub set_next-requires : goal.set_next-requires
set_next-requires g c =
    let words = g.L.Links.words c.args.links.now in
    subst (λ (w : Words). IsTold w c.at-last.result) (sym c.at-last.ensures.words)
    (place_told words (items words c.args.front) (c.args.front.count - 1) c.at-last.result c.requires.front.told c.at-last.ensures.item)

pub returns-clause-words : goal.returns-clause-words
returns-clause-words g c =
    let words = g.L.Links.words c.args.links.now in
    let front = items words c.args.front in
    let back = items words c.args.back in
    let a = c.requires.front.whole in
    let b = c.requires.back.whole in
    let m = c.if-front-eq0.false in
    let n = c.if-back-eq0.false in
    let last = end_is_last words front c.args.back.first (c.args.front.count - 1) c.at-last.result (omega arith) c.at-last.ensures.item in
    c.set_next.ensures.now ∙ ap (λ (w : Words). with_next w c.at-last.result c.args.back.first) c.at-last.ensures.words ∙ sym last ∙ sym (joined_some words front back c.args.back.first (omega arith))

pub returns-clause-items : goal.returns-clause-items
returns-clause-items g c =
    let words = g.L.Links.words c.args.links.now in
    let front = items words c.args.front in
    let a = c.requires.front.whole in
    let m = c.if-front-eq0.false in
    let last = end_is_last words front c.args.back.first (c.args.front.count - 1) c.at-last.result (omega arith) c.at-last.ensures.item in
    let now : g.L.Links.words c.set_next.new.self ≡ with_end words front c.args.back.first =
    c.set_next.ensures.now ∙ ap (λ (w : Words). with_next w c.at-last.result c.args.back.first) c.at-last.ensures.words ∙ sym last in
    subst (λ (w : Words). items w (record { first = c.args.front.first; count = c.args.front.count + c.args.back.count }) ≡ front ++ items words c.args.back) (sym now)
    (both words c.args.front c.args.back (omega arith) c.requires.front c.requires.back c.requires.apart)

pub returns-clause-chain : goal.returns-clause-chain
returns-clause-chain g c =
    let words = g.L.Links.words c.args.links.now in
    let front = items words c.args.front in
    let a = c.requires.front.whole in
    let m = c.if-front-eq0.false in
    let last = end_is_last words front c.args.back.first (c.args.front.count - 1) c.at-last.result (omega arith) c.at-last.ensures.item in
    let now : g.L.Links.words c.set_next.new.self ≡ with_end words front c.args.back.first =
    c.set_next.ensures.now ∙ ap (λ (w : Words). with_next w c.at-last.result c.args.back.first) c.at-last.ensures.words ∙ sym last in
    subst (λ (w : Words). IsChain w (record { first = c.args.front.first; count = c.args.front.count + c.args.back.count })) (sym now)
    (both_whole words c.args.front c.args.back (omega arith) c.requires.front c.requires.back c.requires.apart)

pub returns-clause-others : goal.returns-clause-others
returns-clause-others g c other apart whole =
    let words = g.L.Links.words c.args.links.now in
    subst (λ (w : Words). Stays words w other) (sym (returns-clause-words g c)) (joined_stays words (items words c.args.front) (items words c.args.back) c.args.back.first other apart whole)

pub returns-then-front-eq0-clause-writes : goal.returns-then-front-eq0-clause-writes
returns-then-front-eq0-clause-writes g c =
    let words = g.L.Links.words c.args.links.now in
    let whole = c.requires.front.whole in
    let none = c.if-front-eq0.true in
    subst (g.L.Links.writes c.args.links.now c.args.links.now)
    (sym (join_write-none (items words c.args.front) (items words c.args.back) c.args.back.first (omega arith)))
    (g.met.L.Links.stays c.args.links.now)

pub returns-then-back-eq0-clause-writes : goal.returns-then-back-eq0-clause-writes
returns-then-back-eq0-clause-writes g c =
    let words = g.L.Links.words c.args.links.now in
    let whole = c.requires.back.whole in
    let none = c.if-back-eq0.true in
    subst (g.L.Links.writes c.args.links.now c.args.links.now)
    (sym (join_write-one (items words c.args.front) (items words c.args.back) c.args.back.first (omega arith)))
    (g.met.L.Links.stays c.args.links.now)

pub returns-clause-writes : goal.returns-clause-writes
returns-clause-writes g c =
    let words = g.L.Links.words c.args.links.now in
    let front = items words c.args.front in
    let back = items words c.args.back in
    let a = c.requires.front.whole in
    let b = c.requires.back.whole in
    let m = c.if-front-eq0.false in
    let n = c.if-back-eq0.false in
    let is : join_write front back c.args.back.first ≡ (c.at-last.result, c.args.back.first) ∷ [] =
    join_write-some front back c.args.back.first (omega arith)
    ∙ end_write-last front c.args.back.first (c.args.front.count - 1) c.at-last.result (omega arith) c.at-last.ensures.item in
    subst (g.L.Links.writes c.args.links.now c.set_next.new.self) (sym is)
    (g.met.L.Links.follows c.args.links.now c.at-last.new.links c.set_next.new.self [] ((c.at-last.result, c.args.back.first) ∷ [])
    c.at-last.ensures.writes c.set_next.ensures.one)
