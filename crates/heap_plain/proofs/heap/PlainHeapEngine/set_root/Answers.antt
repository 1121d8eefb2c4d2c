use Rattle.std.proofs.Common.{refl, arith}
use Rattle.heap_plain.proofs.Resting.{keeps}
use Rattle.heap_plain.proofs.RootSteps.{index_below, sets_root}
use Rattle.heap_plain.proofs.StoreSteps.{stored_root}
use Rattle.heap_plain.proofs.Handing.{stored_index, stored_room}
use Rattle.heap_plain.proofs.heap.PlainHeapEngine.set_root.Goals as goal

pub shade_target-requires : goal.shade_target-requires
shade_target-requires g c =
    let frame = rw (← c.self.view_is) at c.requires.frame in
    let held = rw (← c.self.view_is) at c.requires.at in
    let s = c.self.invariant.shows in
    rw (c.phase.ensures, c.deref.ensures.value, c.rooting.ensures) (record {
      index = stored_index c.self.invariant frame _ (stored_root c.self.invariant frame held c.args.on);
      heads = λ i. omega (arith, s.units.in_range i, s.marked_len);
      room = stored_room c.self.invariant frame _ (stored_root c.self.invariant frame held c.args.on);
    })

pub store-requires : goal.store-requires
store-requires g c =
    let frame = rw (← c.self.view_is) at c.requires.frame in
    let held = rw (← c.self.view_is) at c.requires.at in
    omega (arith, index_below c.self.invariant frame held, c.self.invariant.shows.roots.bits.len)

pub invariant_of-self : goal.invariant_of-self
invariant_of-self g c =
    let frame = rw (← c.self.view_is) at c.requires.frame in
    let held = rw (← c.self.view_is) at c.requires.at in
    let barred = rw (c.phase.ensures, c.deref.ensures.value, c.rooting.ensures) at c.shade_target.ensures in
    rw (c.store.ensures.entry, c.store.ensures.bits) (sets_root c.self.invariant frame held c.args.on _ c.store.ensures.was barred).plain

pub returns-clause-entries : goal.returns-clause-entries
returns-clause-entries g c =
    let frame = rw (← c.self.view_is) at c.requires.frame in
    let held = rw (← c.self.view_is) at c.requires.at in
    let barred = rw (c.phase.ensures, c.deref.ensures.value, c.rooting.ensures) at c.shade_target.ensures in
    rw (← c.self.view_is, c.store.ensures.entry) (sets_root c.self.invariant frame held c.args.on _ c.store.ensures.was barred).entries

pub returns-clause-held : goal.returns-clause-held
returns-clause-held g c = let entries = rw (← c.self.view_is) at (returns-clause-entries g c) in rw (← c.self.view_is) (keeps entries refl _)
