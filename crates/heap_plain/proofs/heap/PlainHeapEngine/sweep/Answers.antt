use Rattle.std.proofs.Common.{◌∙◌, refl, sym, arith}
use Rattle.heap_plain.proofs.Resting.{keeps}
use Rattle.heap_plain.proofs.SweepSteps.{refuses_sweep, can_list, sweeps_more, sweeps_all}
use Rattle.heap_plain.proofs.heap.PlainHeapEngine.sweep.Goals as goal

pub invariant_of-self : goal.invariant_of-self
invariant_of-self g c = rw (c.sweep.ensures, c.phase-phase.ensures) (refuses_sweep _ _ _ _ c.self.invariant (λ e. c.in_default.not-Gathering (c.phase-phase.ensures ∙ e))).plain

pub returns-in_default-clause-entries : goal.returns-in_default-clause-entries
returns-in_default-clause-entries g c =
    rw (← c.self.view_is, c.sweep.ensures, c.phase-phase.ensures)
    (refuses_sweep _ _ _ _ c.self.invariant (λ e. c.in_default.not-Gathering (c.phase-phase.ensures ∙ e))).entries

pub returns-in_default-clause-held : goal.returns-in_default-clause-held
returns-in_default-clause-held g c = let entries = rw (← c.self.view_is) at (returns-in_default-clause-entries g c) in rw (← c.self.view_is) (keeps entries refl _)

pub overflow_add-self : goal.overflow_add-self
overflow_add-self g c =
    let f = rw (c.deref.ensures.value, c.deref-2.ensures.value) at c.find_removed-looked.ensures in
    omega (arith, f.range, c.self.invariant.shows.names.items, g.S.Shape.lawful.few_items)

pub list_units-requires : goal.list_units-requires
list_units-requires g c =
    let f = rw (c.deref.ensures.value, c.deref-2.ensures.value) at c.find_removed-looked.ensures in
    rw (c.deref-3.ensures.value, c.deref-4.ensures.value, c.deref-5.ensures.value, c.deref-6.ensures.value) (record {
      can = can_list c.self.invariant (sym c.phase-phase.ensures ∙ c.in-Gathering.is) f c.find_removed-looked.auto.found (omega (arith, g.S.Shape.lawful.few_items));
      none_begun = (c.self.invariant.shows.gathers (sym c.phase-phase.ensures ∙ c.in-Gathering.is)).none_begun;
    })

pub invariant_of-self-then-self-len : goal.invariant_of-self-then-self-len
invariant_of-self-then-self-len g c =
    let f = rw (c.deref.ensures.value, c.deref-2.ensures.value) at c.find_removed-looked.ensures in
    let listed = rw (c.deref-3.ensures.value, c.deref-4.ensures.value, c.deref-5.ensures.value, c.deref-6.ensures.value) at c.list_units.ensures in
    rw (c.sweep-then-self-len.ensures, listed, f.found)
    (sweeps_more c.self.invariant (sym c.phase-phase.ensures ∙ c.in-Gathering.is) f c.find_removed-looked.auto.found (omega (arith, g.S.Shape.lawful.few_items))
    (omega (arith, c.if-self-len.true, c.len.ensures, c.self.inside.lives.ok.0))).plain

pub returns-then-self-len-clause-entries : goal.returns-then-self-len-clause-entries
returns-then-self-len-clause-entries g c =
    let f = rw (c.deref.ensures.value, c.deref-2.ensures.value) at c.find_removed-looked.ensures in
    rw (← c.self.view_is, c.sweep-then-self-len.ensures, f.found)
    (sweeps_more c.self.invariant (sym c.phase-phase.ensures ∙ c.in-Gathering.is) f c.find_removed-looked.auto.found (omega (arith, g.S.Shape.lawful.few_items))
    (omega (arith, c.if-self-len.true, c.len.ensures, c.self.inside.lives.ok.0))).entries

pub returns-then-self-len-clause-held : goal.returns-then-self-len-clause-held
returns-then-self-len-clause-held g c = let entries = rw (← c.self.view_is) at (returns-then-self-len-clause-entries g c) in rw (← c.self.view_is) (keeps entries refl _)

pub invariant_of-self-2 : goal.invariant_of-self-2
invariant_of-self-2 g c =
    let f = rw (c.deref.ensures.value, c.deref-2.ensures.value) at c.find_removed-looked.ensures in
    let listed = rw (c.deref-3.ensures.value, c.deref-4.ensures.value, c.deref-5.ensures.value, c.deref-6.ensures.value) at c.list_units.ensures in
    rw (c.sweep-2.ensures, c.enter.ensures, listed, f.found)
    (sweeps_all c.self.invariant (sym c.phase-phase.ensures ∙ c.in-Gathering.is) f c.find_removed-looked.auto.found (omega (arith, g.S.Shape.lawful.few_items))
    (omega (arith, c.if-self-len.false, c.len.ensures, c.self.inside.lives.ok.0))).plain

pub returns-clause-entries : goal.returns-clause-entries
returns-clause-entries g c =
    let f = rw (c.deref.ensures.value, c.deref-2.ensures.value) at c.find_removed-looked.ensures in
    rw (← c.self.view_is, c.sweep-2.ensures, f.found)
    (sweeps_all c.self.invariant (sym c.phase-phase.ensures ∙ c.in-Gathering.is) f c.find_removed-looked.auto.found (omega (arith, g.S.Shape.lawful.few_items))
    (omega (arith, c.if-self-len.false, c.len.ensures, c.self.inside.lives.ok.0))).entries

pub returns-clause-held : goal.returns-clause-held
returns-clause-held g c = let entries = rw (← c.self.view_is) at (returns-clause-entries g c) in rw (← c.self.view_is) (keeps entries refl _)
