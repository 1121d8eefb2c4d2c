use Rattle.std.proofs.Common.{◌≡◌, ◌+◌, ◌-◌, suc, refl, sym, ap, ◌∙◌, subst, arith, [], drop, IfSome}
use Rattle.std.specs.Prelude.{option_and_then}
use Rattle.std.specs.List.{AllByRecursion}
use Rattle.index_chain.specs.Walks.{Words, IsTold, next_of, walk, items}
use Rattle.index_chain.proofs.Parts.{all_split}
use Rattle.index_chain.proofs.Walking.{here_told, walk_on}
use Rattle.index_chain.proofs.calls.behind.Goals as goal

pub step-here-requires : goal.step-here-requires
step-here-requires g c =
    let words = g.L.Links.words c.args.links.now in
    let is = items words c.args.chain in
    let lt = c.loop-passed-test.true in
    let le = c.requires.n in
    let rest = subst (λ xs. AllByRecursion (IsTold words) xs) (sym c.loop-passed.invariant.rest) (all_split (IsTold words) c.loop-passed.passed is c.requires.chain.told).1 in
    subst (λ (w : Words). IfSome c.loop-passed.here (IsTold w)) (sym c.loop-passed.invariant.words) (here_told words (c.args.chain.count - c.loop-passed.passed) c.loop-passed.here (omega arith) rest)

pub loop-passed-preserved : goal.loop-passed-preserved
loop-passed-preserved g c =
    let words = g.L.Links.words c.args.links.now in
    let is = items words c.args.chain in
    let k = c.loop-passed.passed in
    let lt = c.loop-passed-test.true in
    let le = c.requires.n in
    let whole = c.requires.chain.whole in
    let left = c.args.chain.count - (k + 1) in
    let count : c.args.chain.count - k ≡ suc left = omega arith in
    let here = ap (λ n. walk words n c.loop-passed.here) (sym count) ∙ c.loop-passed.invariant.rest in
    let on = walk_on words left c.loop-passed.here is k (omega arith) here in
    let more : suc k ≡ k + 1 = omega arith in
    let next = c.step-here.ensures.next ∙ ap (λ (w : Words). option_and_then (next_of w) c.loop-passed.here) c.loop-passed.invariant.words in
    record {
      words = c.step-here.ensures.words ∙ c.loop-passed.invariant.words;
      writes = g.met.L.Links.follows c.args.links.now c.loop-passed.links c.step-here.new.links [] [] c.loop-passed.invariant.writes c.step-here.ensures.writes;
      rest = ap (walk words left) next ∙ on ∙ ap (λ n. drop n is) more;
    }

pub loop-passed-init : goal.loop-passed-init
loop-passed-init g c =
    let all : c.args.chain.count - 0 ≡ c.args.chain.count = omega arith in
    record {
      words = refl;
      writes = g.met.L.Links.stays c.args.links.now;
      rest = ap (λ n. walk (g.L.Links.words c.args.links.now) n c.args.chain.first) all;
    }
