use Rattle.std.proofs.Common.{◌≡◌, false, refl, arith, get_or}
use Rattle.std.proofs.lemmas.List.{get_or_read}
use Rattle.heap_plain.proofs.Resting.{keeps}
use Rattle.heap_plain.proofs.RootSteps.{index_below}
use Rattle.heap_plain.proofs.GarbageSteps.{marks}
use Rattle.heap_plain.proofs.heap.PlainHeapEngine.mark_garbage.Goals as goal

pub index-old-requires : goal.index-old-requires
index-old-requires g c =
    let frame = rw (← c.self.view_is) at c.requires.frame in
    let held = rw (← c.self.view_is) at c.requires.at in
    omega (arith, index_below c.self.invariant frame held, c.self.invariant.shows.garbage.len, c.self.inside.garbage.ok.0)

pub index_mut-requires : goal.index_mut-requires
index_mut-requires g c =
    let frame = rw (← c.self.view_is) at c.requires.frame in
    let held = rw (← c.self.view_is) at c.requires.at in
    omega (arith, index_below c.self.invariant frame held, c.self.invariant.shows.garbage.len, c.self.inside.garbage.ok.0)

pub invariant_of-self : goal.invariant_of-self
invariant_of-self g c =
    let frame = rw (← c.self.view_is) at c.requires.frame in
    let held = rw (← c.self.view_is) at c.requires.at in
    let bit : c.index-old.result.now ≡ get_or c.self.inside.garbage.items c.args.at.index false =
    get_or_read c.self.inside.garbage.items _ _ (omega (arith, index_below c.self.invariant frame held, c.self.invariant.shows.garbage.len))
    c.index-old.ensures false in
    rw c.mark_garbage.ensures (marks c.self.invariant frame held _ bit).plain

pub returns-clause-entries : goal.returns-clause-entries
returns-clause-entries g c =
    let frame = rw (← c.self.view_is) at c.requires.frame in
    let held = rw (← c.self.view_is) at c.requires.at in
    let bit : c.index-old.result.now ≡ get_or c.self.inside.garbage.items c.args.at.index false =
    get_or_read c.self.inside.garbage.items _ _ (omega (arith, index_below c.self.invariant frame held, c.self.invariant.shows.garbage.len))
    c.index-old.ensures false in
    rw (← c.self.view_is, c.mark_garbage.ensures) (marks c.self.invariant frame held _ bit).entries

pub returns-clause-held : goal.returns-clause-held
returns-clause-held g c = let entries = rw (← c.self.view_is) at (returns-clause-entries g c) in rw (← c.self.view_is) (keeps entries refl _)
