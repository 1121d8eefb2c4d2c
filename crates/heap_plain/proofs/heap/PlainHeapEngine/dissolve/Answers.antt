use Rattle.std.proofs.Common.{◌∙◌, sym, ◌≡◌, ◌<◌, refl, arith, get_or}
use Rattle.std.proofs.lemmas.List.{get_or_read}
use Rattle.heap_plain.specs.Parts.{first_at}
use Rattle.heap_plain.proofs.Resting.{keeps}
use Rattle.heap_plain.proofs.RootSteps.{index_below, head_below}
use Rattle.heap_plain.proofs.Members.{links_below}
use Rattle.heap_plain.proofs.Dissolving.{starts, refused, room, last_named, last_listed, goes_on, parts, parts_held}
use Rattle.heap_plain.proofs.heap.PlainHeapEngine.dissolve.Goals as goal

pub invariant_of-self : goal.invariant_of-self
invariant_of-self g c =
    let frame = rw (← c.self.view_is) at c.requires.frame in
    let held = rw (← c.self.view_is) at c.requires.at in
    rw c.no_dissolve.ensures (refused c.self.invariant frame held c.requires.own (sym c.phase.ensures ∙ c.in-Marking.is)).plain

pub returns-in-Marking-clause-entries : goal.returns-in-Marking-clause-entries
returns-in-Marking-clause-entries g c =
    let frame = rw (← c.self.view_is) at c.requires.frame in
    let held = rw (← c.self.view_is) at c.requires.at in
    rw (← c.self.view_is, c.no_dissolve.ensures) (refused c.self.invariant frame held c.requires.own (sym c.phase.ensures ∙ c.in-Marking.is)).entries

pub returns-in-Marking-clause-held : goal.returns-in-Marking-clause-held
returns-in-Marking-clause-held g c = let entries = rw (← c.self.view_is) at (returns-in-Marking-clause-entries g c) in rw (← c.self.view_is) (keeps entries refl _)

pub index-count-requires : goal.index-count-requires
index-count-requires g c =
    let frame = rw (← c.self.view_is) at c.requires.frame in
    let held = rw (← c.self.view_is) at c.requires.at in
    let s = c.self.invariant.shows in
    let below = index_below c.self.invariant frame held in
    let head : c.index-head.result.now ≡ first_at c.self.inside.firsts.items c.args.at.index =
    get_or_read c.self.inside.firsts.items _ _ (omega (arith, below, s.units.firsts_len)) c.index-head.ensures 0 in
    omega (arith, head, head_below c.self.invariant frame held, s.units.sizes_len, c.self.inside.sizes.ok.0)

pub list_unit-requires : goal.list_unit-requires
list_unit-requires g c =
    let frame = rw (← c.self.view_is) at c.requires.frame in
    let held = rw (← c.self.view_is) at c.requires.at in
    let s = c.self.invariant.shows in
    let below = index_below c.self.invariant frame held in
    let under = head_below c.self.invariant frame held in
    let head : c.index-head.result.now ≡ first_at c.self.inside.firsts.items c.args.at.index =
    get_or_read c.self.inside.firsts.items _ _ (omega (arith, below, s.units.firsts_len)) c.index-head.ensures 0 in
    let count : c.index-count.result.now ≡ get_or c.self.inside.sizes.items (first_at c.self.inside.firsts.items c.args.at.index) 0 =
    get_or_read c.self.inside.sizes.items _ _ (omega (arith, under, s.units.sizes_len)) (rw head at c.index-count.ensures) 0 in
    rw (c.deref.ensures.value, head, count) (record {
      chain = links_below c.self.invariant frame held;
      room = room c.self.invariant frame held c.requires.own;
    })

pub loop-left-init : goal.loop-left-init
loop-left-init g c =
    let frame = rw (← c.self.view_is) at c.requires.frame in
    let held = rw (← c.self.view_is) at c.requires.at in
    let s = c.self.invariant.shows in
    let below = index_below c.self.invariant frame held in
    let under = head_below c.self.invariant frame held in
    let head : c.index-head.result.now ≡ first_at c.self.inside.firsts.items c.args.at.index =
    get_or_read c.self.inside.firsts.items _ _ (omega (arith, below, s.units.firsts_len)) c.index-head.ensures 0 in
    let count : c.index-count.result.now ≡ get_or c.self.inside.sizes.items (first_at c.self.inside.firsts.items c.args.at.index) 0 =
    get_or_read c.self.inside.sizes.items _ _ (omega (arith, under, s.units.sizes_len)) (rw head at c.index-count.ensures) 0 in
    rw (← c.self.view_is, head, count)
    (starts c.self.invariant frame held c.requires.own (λ e. c.in_default.not-Marking (c.phase.ensures ∙ e)) _ _
    (rw (c.deref.ensures.value, head, count) at c.list_unit.ensures) (room c.self.invariant frame held c.requires.own))

pub named-requires : goal.named-requires
named-requires g c =
    let i = c.loop-left.invariant in
    let more : 1 < c.loop-left.left = omega (arith, c.loop-left-test.true) in
    rw (c.deref-in-loop-left.ensures.value, last_listed i more) (last_named i more)

pub loop-left-preserved : goal.loop-left-preserved
loop-left-preserved g c =
    let i = c.loop-left.invariant in
    let more : 1 < c.loop-left.left = omega (arith, c.loop-left-test.true) in
    let to = last_listed i more in
    goes_on i more _ _ _ _ (rw (c.deref-in-loop-left.ensures.value, to) at c.named.ensures) c.loose.ensures (rw to at c.loosen.ensures.firsts) (rw to at c.loosen.ensures.sizes)

pub invariant_of-self-2 : goal.invariant_of-self-2
invariant_of-self-2 g c = rw c.dissolve.ensures (parts c.loop-left.invariant (omega (arith, c.loop-left-test.false))).plain

pub returns : goal.returns
returns g c = record {
  entries = rw c.dissolve.ensures (parts c.loop-left.invariant (omega (arith, c.loop-left-test.false))).entries;
  held = rw c.dissolve.ensures (parts_held c.loop-left.invariant (omega (arith, c.loop-left-test.false)));
}
