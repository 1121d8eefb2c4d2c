use Rattle.std.proofs.Common.{◌<◌, arith}
use Rattle.mark_core.specs.Shown.{state}
use Rattle.mark_core.specs.View.{view_of}
use Rattle.mark_core.proofs.Writes.{strong-set}
use Rattle.mark_core.proofs.machine.Machine.set_strong.Goals as goal

pub returns-clause-state : goal.returns-clause-state
returns-clause-state c =
    let i = c.self.inside in
    let lt : c.args.lane < i.shape.lanes = rw (← c.self.view_is) at c.requires in
    let len = c.self.invariant.strong_len in
    let p = strong-set i.shape.units i.rooted i.strong.items c.args.lane c.args.to (omega arith) in
    rw (← c.self.view_is) (λ k. record (state (view_of i)) { root = p k })
