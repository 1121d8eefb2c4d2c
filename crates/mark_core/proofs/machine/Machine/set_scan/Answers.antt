use Rattle.std.proofs.Common.{◌<◌, arith}
use Rattle.mark_core.specs.Shown.{state}
use Rattle.mark_core.specs.View.{view_of}
use Rattle.mark_core.proofs.Writes.{scan-set}
use Rattle.mark_core.proofs.machine.Machine.set_scan.Goals as goal

pub returns-clause-state : goal.returns-clause-state
returns-clause-state c =
    let i = c.self.inside in
    let lt : c.args.m < i.shape.markers = rw (← c.self.view_is) at c.requires.m in
    let len = c.self.invariant.scan_len in
    let p = scan-set i.shape i.scan.items c.args.m c.args.scan (omega arith) in
    rw (← c.self.view_is) (λ k. record (state (view_of i)) { scan = p k })
