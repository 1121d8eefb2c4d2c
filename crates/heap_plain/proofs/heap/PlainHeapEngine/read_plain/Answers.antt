use Rattle.std.proofs.Common.{◌≡◌, ◌+◌, ◌*◌, arith, get_or, refl}
use Rattle.std.proofs.lemmas.List.{get_or_read}
use Rattle.heap_plain.proofs.Resting.{keeps}
use Rattle.heap_plain.proofs.StoreSteps.{plain_place, plain_read}
use Rattle.heap_plain.proofs.heap.PlainHeapEngine.read_plain.Goals as goal

pub index-got-requires : goal.index-got-requires
index-got-requires g c =
    let frame = rw (← c.self.view_is) at c.requires.frame in
    let held = rw (← c.self.view_is) at c.requires.at in
    rw (c.SLOTS.ensures, g.S.Shape.constants.slots) (omega (arith, plain_place c.self.invariant frame held c.args.slot c.requires.last, c.self.inside.plains.ok.0))

pub invariant_of-self : goal.invariant_of-self
invariant_of-self g c =
    let frame = rw (← c.self.view_is) at c.requires.frame in
    let held = rw (← c.self.view_is) at c.requires.at in
    let first = rw (← c.self.view_is) at c.requires.first in
    let got : c.index-got.result.now ≡ get_or c.self.inside.plains.items (c.args.at.index * g.S.Shape.sizes.slots + c.args.slot) 0 =
    get_or_read c.self.inside.plains.items _ _ (plain_place c.self.invariant frame held c.args.slot c.requires.last) (rw (c.SLOTS.ensures, g.S.Shape.constants.slots) at c.index-got.ensures) 0 in
    rw (c.read_plain.ensures) (plain_read c.self.invariant frame held c.args.slot _ first c.requires.last got).plain

pub returns-clause-entries : goal.returns-clause-entries
returns-clause-entries g c =
    let frame = rw (← c.self.view_is) at c.requires.frame in
    let held = rw (← c.self.view_is) at c.requires.at in
    let first = rw (← c.self.view_is) at c.requires.first in
    let got : c.index-got.result.now ≡ get_or c.self.inside.plains.items (c.args.at.index * g.S.Shape.sizes.slots + c.args.slot) 0 =
    get_or_read c.self.inside.plains.items _ _ (plain_place c.self.invariant frame held c.args.slot c.requires.last) (rw (c.SLOTS.ensures, g.S.Shape.constants.slots) at c.index-got.ensures) 0 in
    rw (← c.self.view_is, c.read_plain.ensures) (plain_read c.self.invariant frame held c.args.slot _ first c.requires.last got).entries

pub returns-clause-held : goal.returns-clause-held
returns-clause-held g c = let entries = rw (← c.self.view_is) at (returns-clause-entries g c) in rw (← c.self.view_is) (keeps entries refl _)
