use Rattle.std.proofs.Common.{◌≡◌, ◌∙◌, sym, ap, Some}
use Rattle.heap_plain.specs.Parts.{name_at}
use Rattle.heap_plain.proofs.heap.PlainHeapEngine.lawful.Goals as goal

pub returns-clause-legal : goal.returns-clause-legal
returns-clause-legal g c = rw (← c.self.view_is) c.self.invariant.legal

pub returns-clause-closed : goal.returns-clause-closed
returns-clause-closed g c = rw (← c.self.view_is) c.self.invariant.rest.between.closed

pub returns-clause-range : goal.returns-clause-range
returns-clause-range g c lane r held = let h = rw (← c.self.view_is) at held in (c.self.invariant.shows.names.places r.index r.name h.placed).at

pub returns-clause-apart : goal.returns-clause-apart
returns-clause-apart g c k l q r h i same =
    let a = rw (← c.self.view_is) at h in
    let b = rw (← c.self.view_is) at i in
    let e : name_at c.self.inside.names.items q.index ≡ name_at c.self.inside.names.items r.index = ap (name_at c.self.inside.names.items) same in
    let two : Some q.name ≡ Some r.name = sym a.placed ∙ e ∙ b.placed in
    cc
