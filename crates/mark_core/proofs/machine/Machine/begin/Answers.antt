use Rattle.std.proofs.Common.{◌≡◌, ◌==◌, Bool, true, false, not, ap, sym, ◌∙◌}
use Rattle.std.proofs.lemmas.Bool.{eq-eqb}
use Rattle.mark_core.specs.Machine.{Roots, Core, frames}
use Rattle.mark_core.specs.Shown.{state, sizes}
use Rattle.mark_core.specs.Steps.{begins_by}
use Rattle.mark_core.proofs.machine.Machine.begin.Goals as goal

pub returns-then-frames-eq0-clause-state : goal.returns-then-frames-eq0-clause-state
returns-then-frames-eq0-clause-state c =
    let none : (frames (sizes c.args.self.now.shape) (state c.args.self.now) == 0) ≡ true =
    eq-eqb (frames (sizes c.args.self.now.shape) (state c.args.self.now)) 0 (sym c.frames.ensures.frames ∙ c.if-frames-eq0.true) in
    let flipped = c.flip.ensures.state ∙ ap (λ (x : Core). record x { parity = not x.parity; marked = λ u. not (x.marked u) }) c.set_phase.ensures.state in
    let forgot = c.forget_scanned.ensures.state ∙ ap (λ (x : Core). record x { scanned = λ u. false }) flipped in
    c.set_job.ensures.state ∙ (ap (λ (x : Core). record x { job = Roots 0 }) forgot ∙ ap (λ (b : Bool). begins_by b (state c.args.self.now)) (sym none))
