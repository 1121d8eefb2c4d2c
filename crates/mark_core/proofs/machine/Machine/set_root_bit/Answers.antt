use Rattle.std.proofs.Common.{◌<◌, ap, ◌∙◌, arith, Bool, List}
use Rattle.mark_core.specs.Shown.{state, root_of}
use Rattle.mark_core.specs.View.{view_of}
use Rattle.mark_core.proofs.Writes.{bit-set}
use Rattle.mark_core.proofs.machine.Machine.set_root_bit.Goals as goal

pub returns-clause-state : goal.returns-clause-state
returns-clause-state c =
    let i = c.self.inside in
    let lt : c.args.u < i.shape.units = rw (← c.self.view_is) at c.requires in
    let len = c.self.invariant.rooted_len in
    let p = ap (λ (xs : List Bool). root_of i.shape.units xs i.strong.items) c.set.ensures ∙ bit-set i.shape.units i.rooted i.strong.items c.args.u c.args.on lt (omega arith) in
    rw (← c.self.view_is) (λ k. record (state (view_of i)) { root = p k })
