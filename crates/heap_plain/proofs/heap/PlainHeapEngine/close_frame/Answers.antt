use Rattle.heap_plain.proofs.FrameSteps.{closes, held_closes}
use Rattle.heap_plain.proofs.heap.PlainHeapEngine.close_frame.Goals as goal

pub invariant_of-self : goal.invariant_of-self
invariant_of-self g c =
    let frame = rw (← c.self.view_is) at c.requires.frame in
    rw (c.frame_close.ensures, c.close.ensures) (closes _ _ _ _ c.self.invariant frame.in_range frame.opened).plain

pub returns-clause-entries : goal.returns-clause-entries
returns-clause-entries g c =
    let frame = rw (← c.self.view_is) at c.requires.frame in
    rw (← c.self.view_is, c.frame_close.ensures) (closes _ _ _ _ c.self.invariant frame.in_range frame.opened).entries

pub returns-clause-held : goal.returns-clause-held
returns-clause-held g c = rw (← c.self.view_is, c.frame_close.ensures) (λ k r other. held_closes _ _ _ k r other)
