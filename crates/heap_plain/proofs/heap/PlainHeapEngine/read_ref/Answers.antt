use Rattle.std.proofs.Common.{◌≡◌, None, arith, refl}
use Rattle.std.proofs.lemmas.List.{get_or_read}
use Rattle.heap_plain.specs.Parts.{target_at}
use Rattle.heap_plain.proofs.Resting.{keeps}
use Rattle.heap_plain.proofs.StoreSteps.{ref_below, target_place, target_named, ref_read}
use Rattle.heap_plain.proofs.heap.PlainHeapEngine.read_ref.Goals as goal

pub index-requires : goal.index-requires
index-requires g c =
    let frame = rw (← c.self.view_is) at c.requires.frame in
    let held = rw (← c.self.view_is) at c.requires.at in
    let slot = rw (← c.self.view_is) at c.requires.slot in
    rw (c.SLOTS.ensures, g.S.Shape.constants.slots)
    (omega (
      arith,
      target_place c.self.invariant frame held c.args.slot (ref_below c.self.invariant frame held c.args.slot slot),
      c.self.inside.targets.ok.0,
    ))

pub referred-got-requires : goal.referred-got-requires
referred-got-requires g c =
    let frame = rw (← c.self.view_is) at c.requires.frame in
    let held = rw (← c.self.view_is) at c.requires.at in
    let slot = rw (← c.self.view_is) at c.requires.slot in
    let low = ref_below c.self.invariant frame held c.args.slot slot in
    let cell : c.index.result.now ≡ target_at g.S.Shape.sizes.slots c.self.inside.targets.items c.args.at.index c.args.slot =
    get_or_read c.self.inside.targets.items _ _ (target_place c.self.invariant frame held c.args.slot low) (rw (c.SLOTS.ensures, g.S.Shape.constants.slots) at c.index.ensures) None in
    rw (c.deref.ensures.value, cell) (target_named c.self.invariant frame held c.args.slot low)

pub invariant_of-self : goal.invariant_of-self
invariant_of-self g c =
    let frame = rw (← c.self.view_is) at c.requires.frame in
    let held = rw (← c.self.view_is) at c.requires.at in
    let slot = rw (← c.self.view_is) at c.requires.slot in
    let low = ref_below c.self.invariant frame held c.args.slot slot in
    let cell : c.index.result.now ≡ target_at g.S.Shape.sizes.slots c.self.inside.targets.items c.args.at.index c.args.slot =
    get_or_read c.self.inside.targets.items _ _ (target_place c.self.invariant frame held c.args.slot low) (rw (c.SLOTS.ensures, g.S.Shape.constants.slots) at c.index.ensures) None in
    let read = ref_read c.self.invariant frame held c.args.slot slot _ (rw (c.deref.ensures.value, cell) at c.referred-got.ensures) in
    rw (c.read_ref.ensures, c.name_of.ensures) read.done.plain

pub returns-clause-entries : goal.returns-clause-entries
returns-clause-entries g c =
    let frame = rw (← c.self.view_is) at c.requires.frame in
    let held = rw (← c.self.view_is) at c.requires.at in
    let slot = rw (← c.self.view_is) at c.requires.slot in
    let low = ref_below c.self.invariant frame held c.args.slot slot in
    let cell : c.index.result.now ≡ target_at g.S.Shape.sizes.slots c.self.inside.targets.items c.args.at.index c.args.slot =
    get_or_read c.self.inside.targets.items _ _ (target_place c.self.invariant frame held c.args.slot low) (rw (c.SLOTS.ensures, g.S.Shape.constants.slots) at c.index.ensures) None in
    let read = ref_read c.self.invariant frame held c.args.slot slot _ (rw (c.deref.ensures.value, cell) at c.referred-got.ensures) in
    rw (← c.self.view_is, c.read_ref.ensures, c.name_of.ensures) read.done.entries

pub returns-clause-given : goal.returns-clause-given
returns-clause-given g c =
    let frame = rw (← c.self.view_is) at c.requires.frame in
    let held = rw (← c.self.view_is) at c.requires.at in
    let slot = rw (← c.self.view_is) at c.requires.slot in
    let low = ref_below c.self.invariant frame held c.args.slot slot in
    let cell : c.index.result.now ≡ target_at g.S.Shape.sizes.slots c.self.inside.targets.items c.args.at.index c.args.slot =
    get_or_read c.self.inside.targets.items _ _ (target_place c.self.invariant frame held c.args.slot low) (rw (c.SLOTS.ensures, g.S.Shape.constants.slots) at c.index.ensures) None in
    let read = ref_read c.self.invariant frame held c.args.slot slot _ (rw (c.deref.ensures.value, cell) at c.referred-got.ensures) in
    rw (c.read_ref.ensures, c.name_of.ensures) read.given

pub returns-clause-held : goal.returns-clause-held
returns-clause-held g c = let entries = rw (← c.self.view_is) at (returns-clause-entries g c) in rw (← c.self.view_is) (keeps entries refl _)
