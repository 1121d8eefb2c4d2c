use Rattle.std.proofs.Common.{refl, sym, arith}
use Rattle.world_model.proofs.Places.{quotas_hold_holds}
use Rattle.heap_plain.proofs.Resting.{keeps}
use Rattle.heap_plain.proofs.PairSteps.{weak_below, drawn_is, gives_old, gives_new, stays}
use Rattle.heap_plain.proofs.heap.PlainHeapEngine.weak_of.Goals as goal

pub at-requires : goal.at-requires
at-requires g c =
    let frame = rw (← c.self.view_is) at c.requires.frame in
    let held = rw (← c.self.view_is) at c.requires.at in
    weak_below g.S.Shape.lawful c.self.invariant frame held

pub invariant_of-self : goal.invariant_of-self
invariant_of-self g c =
    let frame = rw (← c.self.view_is) at c.requires.frame in
    let held = rw (← c.self.view_is) at c.requires.at in
    rw c.weak_of.ensures (gives_old g.S.Shape.lawful c.self.invariant frame held c.in-Some.weak (sym c.in-Some.ensures)).plain

pub returns-in-Some-clause-entries : goal.returns-in-Some-clause-entries
returns-in-Some-clause-entries g c =
    let frame = rw (← c.self.view_is) at c.requires.frame in
    let held = rw (← c.self.view_is) at c.requires.at in
    rw (← c.self.view_is, c.weak_of.ensures) (gives_old g.S.Shape.lawful c.self.invariant frame held c.in-Some.weak (sym c.in-Some.ensures)).entries

pub returns-in-Some-clause-held : goal.returns-in-Some-clause-held
returns-in-Some-clause-held g c = let entries = rw (← c.self.view_is) at (returns-in-Some-clause-entries g c) in rw (← c.self.view_is) (keeps entries refl _)

pub draw-drawn-requires : goal.draw-drawn-requires
draw-drawn-requires g c =
    let frame = rw (← c.self.view_is) at c.requires.frame in
    let held = rw (← c.self.view_is) at c.requires.at in
    let s = c.self.invariant.shows in
    let quota = (quotas_hold_holds g.S.Shape.sizes c.self.inside.diary c.self.invariant.legal c.args.lane).serials in
    rw (c.SERIALS.ensures, g.S.Shape.constants.serials) (record {
      lane = omega (arith, s.pairs.drawn.len, frame.in_range);
      few = omega (arith, frame.in_range, g.S.Shape.lawful.few_lanes);
      index = weak_below g.S.Shape.lawful c.self.invariant frame held;
      limit = omega (arith, g.S.Shape.lawful.few_serials);
      drawn = omega (arith, quota, drawn_is g.S.Shape.lawful c.self.invariant frame held);
    })

pub invariant_of-self-2 : goal.invariant_of-self-2
invariant_of-self-2 g c =
    let frame = rw (← c.self.view_is) at c.requires.frame in
    let held = rw (← c.self.view_is) at c.requires.at in
    let draws = rw (c.SERIALS.ensures, g.S.Shape.constants.serials) at c.draw-drawn.ensures in
    rw c.draws.ensures (gives_new g.S.Shape.lawful c.self.invariant frame held _ _ (sym c.in_default.ensures) draws).plain

pub returns-clause-entries : goal.returns-clause-entries
returns-clause-entries g c =
    let frame = rw (← c.self.view_is) at c.requires.frame in
    let held = rw (← c.self.view_is) at c.requires.at in
    let draws = rw (c.SERIALS.ensures, g.S.Shape.constants.serials) at c.draw-drawn.ensures in
    rw (← c.self.view_is, c.draws.ensures) (gives_new g.S.Shape.lawful c.self.invariant frame held _ _ (sym c.in_default.ensures) draws).entries

pub returns-clause-held : goal.returns-clause-held
returns-clause-held g c = let entries = rw (← c.self.view_is) at (returns-clause-entries g c) in rw (← c.self.view_is) (keeps entries (stays _ _) _)
