use Rattle.mark_core.specs.Shown.{state}
use Rattle.mark_core.specs.View.{view_of}
use Rattle.mark_core.proofs.machine.Machine.flip.Goals as goal

pub returns-clause-state : goal.returns-clause-state
returns-clause-state c =
    let i = c.self.inside in
    let p = c.flip.ensures.marked in
    let q = c.flip.ensures.doomed in
    let r = c.flip.ensures.parity in
    rw (← c.self.view_is) (λ k. record (state (view_of i)) { marked = p k; doomed = q k; parity = r k })
