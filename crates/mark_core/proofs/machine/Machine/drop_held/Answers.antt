use Rattle.std.proofs.Common.{◌<◌, arith}
use Rattle.mark_core.specs.Shown.{state}
use Rattle.mark_core.specs.View.{view_of}
use Rattle.mark_core.proofs.Writes.{table-clear}
use Rattle.mark_core.proofs.machine.Machine.drop_held.Goals as goal

pub returns-clause-state : goal.returns-clause-state
returns-clause-state c =
    let i = c.self.inside in
    let lt : c.args.lane < i.shape.lanes = rw (← c.self.view_is) at c.requires in
    let len = c.self.invariant.holds_len in
    let p = table-clear i.holds.items c.args.lane c.clear.new.self c.index_mut.result.now (omega arith) c.clear.ensures in
    rw (← c.self.view_is) (λ k. record (state (view_of i)) { holds = p k })
