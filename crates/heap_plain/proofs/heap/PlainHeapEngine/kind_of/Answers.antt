use Rattle.std.proofs.Common.{◌≡◌, arith}
use Rattle.std.proofs.lemmas.List.{get_or_read}
use Rattle.heap_plain.specs.Parts.{kind_at}
use Rattle.heap_plain.proofs.RootSteps.{index_below}
use Rattle.heap_plain.proofs.StoreSteps.{kind_is}
use Rattle.heap_plain.proofs.heap.PlainHeapEngine.kind_of.Goals as goal

pub returns-clause-kind : goal.returns-clause-kind
returns-clause-kind g c =
    let frame = rw (← c.self.view_is) at c.requires.frame in
    let held = rw (← c.self.view_is) at c.requires.at in
    let below = index_below c.self.invariant frame held in
    let is : c.index.result.now ≡ kind_at c.self.inside.kinds.items c.args.at.index =
    get_or_read c.self.inside.kinds.items _ _ (omega (arith, below, c.self.invariant.shows.kinds.len)) c.index.ensures _ in
    rw (← c.self.view_is, is) (kind_is c.self.invariant frame held)
