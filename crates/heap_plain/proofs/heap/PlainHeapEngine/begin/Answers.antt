use Rattle.std.proofs.Common.{inl, inr, false, refl, sym, ◌∙◌, arith, length}
use Rattle.std.proofs.lemmas.List.{length-replicate}
use Rattle.heap_plain.proofs.Resting.{keeps}
use Rattle.heap_plain.proofs.Shadings.{shades_len}
use Rattle.heap_plain.proofs.BeginSteps.{refuses_begin, root_set_shaded, started, head_named, strong_below, start_facts}
use Rattle.heap_plain.proofs.heap.PlainHeapEngine.begin.Goals as goal

pub opened-requires : goal.opened-requires
opened-requires g c = omega (arith, c.self.invariant.shows.frames.lanes.len, g.S.Shape.lawful.few_lanes)

pub shade_roots-requires : goal.shade_roots-requires
shade_roots-requires g c =
    let s = c.self.invariant.shows in
    rw (c.deref.ensures.value, c.deref-then-starts.ensures.value, c.deref-then-starts-2.ensures.value, c.clear.ensures) (record {
      firsts = omega (arith, s.units.firsts_len, s.roots.bits.len);
      few = omega (arith, s.roots.bits.len, g.S.Shape.lawful.few_items);
      heads = λ i. omega (arith, s.units.in_range i, s.marked_len, length-replicate (length c.self.inside.colours.marked) false);
      named = λ t root. head_named c.self.invariant t (inl root);
      fits = record { distinct = tt; set = λ head a. absurd a };
    })

pub shade_strong-requires : goal.shade_strong-requires
shade_strong-requires g c =
    let s = c.self.invariant.shows in
    let is = g.S.Shape.constants in
    let roots = rw c.clear.ensures at c.shade_roots.ensures in
    let len = shades_len roots in
    rw (c.deref-then-starts-3.ensures.value, c.deref-then-starts-4.ensures.value, c.deref-then-starts-5.ensures.value, c.LANES.ensures, c.STRONG.ensures, is.lanes, is.strong) (record {
      rows = omega (arith, s.strong.len);
      target = λ t h. omega (arith, strong_below c.self.invariant t h, s.units.firsts_len);
      heads = λ i. omega (arith, s.units.in_range i, s.marked_len, len, length-replicate (length c.self.inside.colours.marked) false);
      named = λ t h. head_named c.self.invariant t (inr h);
      fits = roots.fits;
    })

pub invariant_of-self : goal.invariant_of-self
invariant_of-self g c =
    let is = g.S.Shape.constants in
    let facts = start_facts _ _ _ _ (rw (c.phase.ensures, c.opened.ensures) at c.may_start-reply.ensures) (sym c.starts.ensures ∙ c.if-starts.true) in
    let roots =
    rw (c.deref.ensures.value, c.deref-then-starts.ensures.value, c.deref-then-starts-2.ensures.value, c.begin_gc.ensures, facts.0, c.clear.ensures)
    at c.shade_roots.ensures in
    let strong =
    rw (c.deref-then-starts-3.ensures.value, c.deref-then-starts-4.ensures.value, c.deref-then-starts-5.ensures.value, c.LANES.ensures, c.STRONG.ensures, is.lanes, is.strong)
    at c.shade_strong.ensures in
    rw c.enter.ensures (started c.self.invariant facts.3 facts.1 facts.2 (root_set_shaded g.S.Shape.sizes c.self.inside.roots.items c.self.inside.strong.items roots strong)).plain

pub returns-then-starts-clause-entries : goal.returns-then-starts-clause-entries
returns-then-starts-clause-entries g c =
    let is = g.S.Shape.constants in
    let facts = start_facts _ _ _ _ (rw (c.phase.ensures, c.opened.ensures) at c.may_start-reply.ensures) (sym c.starts.ensures ∙ c.if-starts.true) in
    let roots =
    rw (c.deref.ensures.value, c.deref-then-starts.ensures.value, c.deref-then-starts-2.ensures.value, c.begin_gc.ensures, facts.0, c.clear.ensures)
    at c.shade_roots.ensures in
    let strong =
    rw (c.deref-then-starts-3.ensures.value, c.deref-then-starts-4.ensures.value, c.deref-then-starts-5.ensures.value, c.LANES.ensures, c.STRONG.ensures, is.lanes, is.strong)
    at c.shade_strong.ensures in
    rw (← c.self.view_is) (started c.self.invariant facts.3 facts.1 facts.2 (root_set_shaded g.S.Shape.sizes c.self.inside.roots.items c.self.inside.strong.items roots strong)).entries

pub returns-then-starts-clause-held : goal.returns-then-starts-clause-held
returns-then-starts-clause-held g c = let entries = rw (← c.self.view_is) at (returns-then-starts-clause-entries g c) in rw (← c.self.view_is) (keeps entries refl _)

pub invariant_of-self-else-starts : goal.invariant_of-self-else-starts
invariant_of-self-else-starts g c =
    rw c.begin_gc.ensures (refuses_begin _ c.self.invariant (rw (c.phase.ensures, c.opened.ensures) at c.may_start-reply.ensures) (sym c.starts.ensures ∙ c.if-starts.false)).plain

pub returns-clause-entries : goal.returns-clause-entries
returns-clause-entries g c =
    rw (← c.self.view_is, c.begin_gc.ensures)
    (refuses_begin _ c.self.invariant (rw (c.phase.ensures, c.opened.ensures) at c.may_start-reply.ensures)
    (sym c.starts.ensures ∙ c.if-starts.false)).entries

pub returns-clause-held : goal.returns-clause-held
returns-clause-held g c = let entries = rw (← c.self.view_is) at (returns-clause-entries g c) in rw (← c.self.view_is) (keeps entries refl _)
