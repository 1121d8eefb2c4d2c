use Rattle.std.proofs.Common.{ℕ, ap, ◌∙◌, Bool, false, List}
use Rattle.std.proofs.Math.ListN.{get_or}
use Rattle.mark_core.specs.Shown.{state}
use Rattle.mark_core.specs.View.{view_of}
use Rattle.mark_core.proofs.Writes.{all_false}
use Rattle.mark_core.proofs.machine.Machine.forget_scanned.Goals as goal

pub returns-clause-state : goal.returns-clause-state
returns-clause-state c =
    let i = c.self.inside in
    let p = ap (λ (xs : List Bool). λ (u : ℕ). get_or xs u false) c.clear.ensures ∙ all_false i.scanned in
    rw (← c.self.view_is) (λ k. record (state (view_of i)) { scanned = p k })
