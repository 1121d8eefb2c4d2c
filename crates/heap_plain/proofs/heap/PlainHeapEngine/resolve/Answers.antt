use Rattle.std.proofs.Common.{refl, arith}
use Rattle.heap_plain.proofs.Resting.{keeps}
use Rattle.heap_plain.proofs.PairSteps.{resolves, found_below, live_named}
use Rattle.heap_plain.proofs.heap.PlainHeapEngine.resolve.Goals as goal

pub given-got-requires : goal.given-got-requires
given-got-requires g c =
    let frame = rw (← c.self.view_is) at c.requires.frame in
    let s = c.self.invariant.shows in
    rw (c.deref.ensures.value, c.deref-2.ensures.value, c.deref-3.ensures.value, c.index-found.ensures) (record {
      life = λ i e. omega (arith, found_below g.S.Shape.lawful c.self.invariant frame c.args.weak i e, s.units.lives_len);
      garbage = λ i e. omega (arith, found_below g.S.Shape.lawful c.self.invariant frame c.args.weak i e, s.garbage.len);
      named = live_named g.S.Shape.lawful c.self.invariant frame;
    })

pub invariant_of-self : goal.invariant_of-self
invariant_of-self g c =
    let frame = rw (← c.self.view_is) at c.requires.frame in
    let refers = rw (c.deref.ensures.value, c.deref-2.ensures.value, c.deref-3.ensures.value, c.index-found.ensures) at c.given-got.ensures in
    rw (c.resolve.ensures, c.name_of.ensures) (resolves g.S.Shape.lawful c.self.invariant frame c.args.weak _ refers).done.plain

pub returns-clause-entries : goal.returns-clause-entries
returns-clause-entries g c =
    let frame = rw (← c.self.view_is) at c.requires.frame in
    let refers = rw (c.deref.ensures.value, c.deref-2.ensures.value, c.deref-3.ensures.value, c.index-found.ensures) at c.given-got.ensures in
    rw (← c.self.view_is, c.resolve.ensures, c.name_of.ensures) (resolves g.S.Shape.lawful c.self.invariant frame c.args.weak _ refers).done.entries

pub returns-clause-given : goal.returns-clause-given
returns-clause-given g c =
    let frame = rw (← c.self.view_is) at c.requires.frame in
    let refers = rw (c.deref.ensures.value, c.deref-2.ensures.value, c.deref-3.ensures.value, c.index-found.ensures) at c.given-got.ensures in
    rw (c.resolve.ensures, c.name_of.ensures) (resolves g.S.Shape.lawful c.self.invariant frame c.args.weak _ refers).given

pub returns-clause-held : goal.returns-clause-held
returns-clause-held g c = let entries = rw (← c.self.view_is) at (returns-clause-entries g c) in rw (← c.self.view_is) (keeps entries refl _)
