use Rattle.std.proofs.Common.{◌≡◌, ℕ, ◌+◌, ◌-◌, List, [], ◌∷◌, take, slice_get, length, refl, sym, ap, ◌∙◌, subst, arith, Some, None}
use Rattle.index_chain.specs.declared.chain.Chain.{Chain}
use Rattle.index_chain.specs.Walks.{Words, IsTold, with_next, items, AreApart, IsChain, Stays}
use Rattle.index_chain.specs.Calls.{with_end, end_write}
use Rattle.index_chain.proofs.Walking.{walk_take, front_whole, end_is_last, end_none, ended_stays, end_stays, place_told}
use Rattle.index_chain.proofs.Writes.{end_write-last, end_write-none}
use Rattle.index_chain.proofs.calls.drop_last.Goals as goal

-- the chain without its last item, as it was
abbrev left : Chain → Chain
left chain = record { first = chain.first; count = chain.count - 1 }

left_is : (words : Words) (chain : Chain) → items words (left chain) ≡ take (chain.count - 1) (items words chain)
left_is words chain = walk_take words (chain.count - 1) chain.count chain.first (omega arith)

left_whole : (words : Words) (chain : Chain) → IsChain words chain → IsChain words (left chain)
left_whole words chain whole = front_whole words chain (chain.count - 1) (omega arith) whole

same_words : (words now : Words) (other : Chain) → now ≡ words → IsChain words other → Stays words now other
same_words words now other e whole = subst (λ (w : Words). Stays words w other) (sym e) (record { same = refl; whole = whole })

-- nothing is left
no_front : (words : Words) (chain : Chain) → chain.count - 1 ≡ 0 → IsChain words chain → length (take (chain.count - 1) (items words chain)) ≡ 0
no_front words chain none whole = ap length (sym (left_is words chain)) ∙ ((left_whole words chain whole).whole ∙ none)

pub returns-then-left-eq0-clause-items : goal.returns-then-left-eq0-clause-items
returns-then-left-eq0-clause-items g c =
    let words = g.L.Links.words c.args.links.now in
    subst (λ (w : Words). items w (left c.args.chain) ≡ take (c.args.chain.count - 1) (items words c.args.chain)) (sym c.at-last.ensures.words) (left_is words c.args.chain)

pub returns-then-left-eq0-clause-chain : goal.returns-then-left-eq0-clause-chain
returns-then-left-eq0-clause-chain g c =
    let words = g.L.Links.words c.args.links.now in
    subst (λ (w : Words). IsChain w (left c.args.chain)) (sym c.at-last.ensures.words) (left_whole words c.args.chain c.requires.chain)

pub returns-then-left-eq0-clause-words : goal.returns-then-left-eq0-clause-words
returns-then-left-eq0-clause-words g c =
    let words = g.L.Links.words c.args.links.now in
    c.at-last.ensures.words ∙ sym (end_none words (take (c.args.chain.count - 1) (items words c.args.chain)) None (no_front words c.args.chain c.if-left-eq0.true c.requires.chain))

pub returns-then-left-eq0-clause-writes : goal.returns-then-left-eq0-clause-writes
returns-then-left-eq0-clause-writes g c =
    let words = g.L.Links.words c.args.links.now in
    subst (g.L.Links.writes c.args.links.now c.at-last.new.links)
    (sym
    (end_write-none (take (c.args.chain.count - 1) (items words c.args.chain)) None
    (no_front words c.args.chain c.if-left-eq0.true c.requires.chain))) c.at-last.ensures.writes

pub returns-then-left-eq0-clause-others : goal.returns-then-left-eq0-clause-others
returns-then-left-eq0-clause-others g c other apart whole =
    same_words (g.L.Links.words c.args.links.now) (g.L.Links.words c.at-last.new.links) other c.at-last.ensures.words whole

pub at-end-requires-clause-chain : goal.at-end-requires-clause-chain
at-end-requires-clause-chain g c =
    let words = g.L.Links.words c.args.links.now in
    subst (λ (w : Words). IsChain w (left c.args.chain)) (sym c.at-last.ensures.words) (left_whole words c.args.chain c.requires.chain)

pub set_next-requires : goal.set_next-requires
set_next-requires g c =
    let words = g.L.Links.words c.args.links.now in
    let now : g.L.Links.words c.at-end.new.links ≡ words = c.at-end.ensures.words ∙ c.at-last.ensures.words in
    let item : slice_get (items words (left c.args.chain)) (c.args.chain.count - 1 - 1) ≡ Some c.at-end.result =
    subst (λ (w : Words). slice_get (items w (left c.args.chain)) (c.args.chain.count - 1 - 1) ≡ Some c.at-end.result) c.at-last.ensures.words
    c.at-end.ensures.item in
    subst (λ (w : Words). IsTold w c.at-end.result) (sym now)
    (place_told words (items words (left c.args.chain)) (c.args.chain.count - 1 - 1) c.at-end.result
    (left_whole words c.args.chain c.requires.chain).told item)

-- what the write makes of the words, and that it is one
module _ (words first second third : Words) (chain : Chain) (end : ℕ) (whole : IsChain words chain) (some : chain.count - 1 ≡ 0 → ⊥)
    (one : first ≡ words) (two : second ≡ first) (item : slice_get (items first (left chain)) (chain.count - 1 - 1) ≡ Some end)
    (three : third ≡ with_next second end None) where
  at_end : slice_get (items words (left chain)) (chain.count - 1 - 1) ≡ Some end
  at_end = subst (λ (w : Words). slice_get (items w (left chain)) (chain.count - 1 - 1) ≡ Some end) one item

  long : length (items words (left chain)) ≡ (chain.count - 1 - 1) + 1
  long = let n = (left_whole words chain whole).whole in omega (arith, some)

  ended : third ≡ with_end words (items words (left chain)) None
  ended = three ∙ (ap (λ (w : Words). with_next w end None) (two ∙ one) ∙ sym (end_is_last words (items words (left chain)) None (chain.count - 1 - 1) end long at_end))

  stays : Stays words third (left chain)
  stays = subst (λ (w : Words). Stays words w (left chain)) (sym ended) (ended_stays words (left chain) (left_whole words chain whole))

  others : (other : Chain) → AreApart (take (chain.count - 1) (items words chain)) (items words other) → IsChain words other → Stays words third other
  others other apart it =
      subst (λ (w : Words). Stays words w other) (sym ended)
      (end_stays words (items words (left chain)) None other (subst (λ (is : List ℕ). AreApart is (items words other)) (sym (left_is words chain)) apart) it)

  write_is : end_write (take (chain.count - 1) (items words chain)) None ≡ (end, None) ∷ []
  write_is = ap (λ (is : List ℕ). end_write is None) (sym (left_is words chain)) ∙ end_write-last (items words (left chain)) None (chain.count - 1 - 1) end long at_end

pub returns-clause-items : goal.returns-clause-items
returns-clause-items g c =
    let words = g.L.Links.words c.args.links.now in
    (stays words (g.L.Links.words c.at-last.new.links) (g.L.Links.words c.at-end.new.links) (g.L.Links.words c.set_next.new.self) c.args.chain
    c.at-end.result c.requires.chain c.if-left-eq0.false c.at-last.ensures.words c.at-end.ensures.words c.at-end.ensures.item
    c.set_next.ensures.now).same ∙ left_is words c.args.chain

pub returns-clause-chain : goal.returns-clause-chain
returns-clause-chain g c =
    let words = g.L.Links.words c.args.links.now in
    (stays words (g.L.Links.words c.at-last.new.links) (g.L.Links.words c.at-end.new.links) (g.L.Links.words c.set_next.new.self) c.args.chain
    c.at-end.result c.requires.chain c.if-left-eq0.false c.at-last.ensures.words c.at-end.ensures.words c.at-end.ensures.item
    c.set_next.ensures.now).whole

pub returns-clause-words : goal.returns-clause-words
returns-clause-words g c =
    let words = g.L.Links.words c.args.links.now in
    ended words (g.L.Links.words c.at-last.new.links) (g.L.Links.words c.at-end.new.links) (g.L.Links.words c.set_next.new.self) c.args.chain
    c.at-end.result c.requires.chain c.if-left-eq0.false c.at-last.ensures.words c.at-end.ensures.words c.at-end.ensures.item
    c.set_next.ensures.now
    ∙ ap (λ (is : List ℕ). with_end words is None) (left_is words c.args.chain)

pub returns-clause-others : goal.returns-clause-others
returns-clause-others g c other apart whole =
    let words = g.L.Links.words c.args.links.now in
    others words (g.L.Links.words c.at-last.new.links) (g.L.Links.words c.at-end.new.links) (g.L.Links.words c.set_next.new.self) c.args.chain
    c.at-end.result c.requires.chain c.if-left-eq0.false c.at-last.ensures.words c.at-end.ensures.words c.at-end.ensures.item
    c.set_next.ensures.now other apart whole

pub returns-clause-writes : goal.returns-clause-writes
returns-clause-writes g c =
    let words = g.L.Links.words c.args.links.now in
    let is =
    write_is words (g.L.Links.words c.at-last.new.links) (g.L.Links.words c.at-end.new.links) (g.L.Links.words c.set_next.new.self) c.args.chain
    c.at-end.result c.requires.chain c.if-left-eq0.false c.at-last.ensures.words c.at-end.ensures.words c.at-end.ensures.item
    c.set_next.ensures.now in
    let read = g.met.L.Links.follows c.args.links.now c.at-last.new.links c.at-end.new.links [] [] c.at-last.ensures.writes c.at-end.ensures.writes in
    subst (g.L.Links.writes c.args.links.now c.set_next.new.self) (sym is)
    (g.met.L.Links.follows c.args.links.now c.at-end.new.links c.set_next.new.self [] ((c.at-end.result, None) ∷ []) read c.set_next.ensures.one)
