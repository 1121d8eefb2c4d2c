use Rattle.heap_plain.proofs.FrameSteps.{opens, held_opens}
use Rattle.heap_plain.proofs.heap.PlainHeapEngine.open_frame.Goals as goal

pub invariant_of-self : goal.invariant_of-self
invariant_of-self g c = rw (c.frame_open.ensures, c.open.ensures, c.phase-phase.ensures) (opens _ _ _ _ c.self.invariant c.requires.lane (rw (← c.self.view_is) at c.requires.closed)).plain

pub returns-clause-entries : goal.returns-clause-entries
returns-clause-entries g c = rw (← c.self.view_is, c.frame_open.ensures, c.phase-phase.ensures) (opens _ _ _ _ c.self.invariant c.requires.lane (rw (← c.self.view_is) at c.requires.closed)).entries

pub returns-clause-held : goal.returns-clause-held
returns-clause-held g c = rw (← c.self.view_is, c.frame_open.ensures, c.phase-phase.ensures) (held_opens _ _ _ _ c.self.invariant (rw (← c.self.view_is) at c.requires.closed))
