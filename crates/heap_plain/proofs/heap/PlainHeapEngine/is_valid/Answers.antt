use Rattle.std.proofs.Common.{◌≡◌, ap, not, false, refl, arith, get_or}
use Rattle.std.proofs.lemmas.List.{get_or_read}
use Rattle.heap_plain.proofs.Resting.{keeps}
use Rattle.heap_plain.proofs.RootSteps.{index_below}
use Rattle.heap_plain.proofs.GarbageSteps.{tells}
use Rattle.heap_plain.proofs.heap.PlainHeapEngine.is_valid.Goals as goal

pub index-requires : goal.index-requires
index-requires g c =
    let frame = rw (← c.self.view_is) at c.requires.frame in
    let held = rw (← c.self.view_is) at c.requires.at in
    omega (arith, index_below c.self.invariant frame held, c.self.invariant.shows.garbage.len, c.self.inside.garbage.ok.0)

pub invariant_of-self : goal.invariant_of-self
invariant_of-self g c =
    let frame = rw (← c.self.view_is) at c.requires.frame in
    let held = rw (← c.self.view_is) at c.requires.at in
    let bit : c.index.result.now ≡ get_or c.self.inside.garbage.items c.args.at.index false =
    get_or_read c.self.inside.garbage.items _ _ (omega (arith, index_below c.self.invariant frame held, c.self.invariant.shows.garbage.len))
    c.index.ensures false in
    rw c.is_valid.ensures (tells c.self.invariant frame held _ (ap not bit)).plain

pub returns-clause-entries : goal.returns-clause-entries
returns-clause-entries g c =
    let frame = rw (← c.self.view_is) at c.requires.frame in
    let held = rw (← c.self.view_is) at c.requires.at in
    let bit : c.index.result.now ≡ get_or c.self.inside.garbage.items c.args.at.index false =
    get_or_read c.self.inside.garbage.items _ _ (omega (arith, index_below c.self.invariant frame held, c.self.invariant.shows.garbage.len))
    c.index.ensures false in
    rw (← c.self.view_is, c.is_valid.ensures) (tells c.self.invariant frame held _ (ap not bit)).entries

pub returns-clause-held : goal.returns-clause-held
returns-clause-held g c = let entries = rw (← c.self.view_is) at (returns-clause-entries g c) in rw (← c.self.view_is) (keeps entries refl _)
