use Rattle.std.proofs.Common.{◌≡◌, arith}
use Rattle.std.proofs.lemmas.List.{get_or_read}
use Rattle.heap_plain.specs.Parts.{first_at}
use Rattle.heap_plain.proofs.RootSteps.{index_below}
use Rattle.heap_plain.proofs.Members.{first_named, first_of_unit}
use Rattle.heap_plain.proofs.heap.PlainHeapEngine.unit_of.Goals as goal

pub named-requires : goal.named-requires
named-requires g c =
    let frame = rw (← c.self.view_is) at c.requires.frame in
    let held = rw (← c.self.view_is) at c.requires.at in
    let head : c.index-head.result.now ≡ first_at c.self.inside.firsts.items c.args.at.index =
    get_or_read c.self.inside.firsts.items _ _ (omega (arith, index_below c.self.invariant frame held, c.self.invariant.shows.units.firsts_len)) c.index-head.ensures 0 in
    rw (c.deref.ensures.value, head) (first_named c.self.invariant frame held)

pub returns-clause-first : goal.returns-clause-first
returns-clause-first g c =
    let frame = rw (← c.self.view_is) at c.requires.frame in
    let held = rw (← c.self.view_is) at c.requires.at in
    let head : c.index-head.result.now ≡ first_at c.self.inside.firsts.items c.args.at.index =
    get_or_read c.self.inside.firsts.items _ _ (omega (arith, index_below c.self.invariant frame held, c.self.invariant.shows.units.firsts_len)) c.index-head.ensures 0 in
    rw (← c.self.view_is) (first_of_unit c.self.invariant frame held _ (rw (c.deref.ensures.value, head) at c.named.ensures))
