use Rattle.std.proofs.Common.{◌-◌, ◌<◌, arith, length, Some, None}
use Rattle.std.proofs.lemmas.Option.{slice_get-get_or}
use Rattle.index_chain.specs.Walks.{items}
use Rattle.index_chain.proofs.Walking.{first_behind}
use Rattle.index_chain.proofs.calls.at.Goals as goal

pub returns-in-Some-clause-item : goal.returns-in-Some-clause-item
returns-in-Some-clause-item g c =
    let words = g.L.Links.words c.args.links.now in
    let lt = c.requires.k in
    let whole = c.requires.chain.whole in
    first_behind words (c.args.chain.count - c.args.k) (Some c.in-Some.i) (items words c.args.chain) c.args.k (omega arith) (omega arith) c.in-Some.ensures.rest

pub returns-in-None-clause-item : goal.returns-in-None-clause-item
returns-in-None-clause-item g c =
    let words = g.L.Links.words c.args.links.now in
    let is = items words c.args.chain in
    let lt = c.requires.k in
    let whole = c.requires.chain.whole in
    let inside : c.args.k < length is = omega arith in
    let none = first_behind words (c.args.chain.count - c.args.k) None is c.args.k (omega arith) inside c.in-None.ensures.rest in
    let some = slice_get-get_or is c.args.k 0 inside in
    absurd cc
