use Rattle.std.proofs.Common.{◌*◌, ◌<◌, arith, None}
use Rattle.mark_core.specs.Shown.{state}
use Rattle.mark_core.specs.View.{view_of}
use Rattle.mark_core.proofs.Sets.{list-set}
use Rattle.mark_core.proofs.machine.Machine.set_target.Goals as goal

pub returns-clause-state : goal.returns-clause-state
returns-clause-state c =
    let i = c.self.inside in
    let lt : c.args.cell < i.shape.units * i.shape.cells = rw (← c.self.view_is) at c.requires in
    let len = c.self.invariant.targets_len in
    let p = list-set None i.targets.items c.args.cell c.args.to (omega arith) in
    rw (← c.self.view_is) (λ k. record (state (view_of i)) { cell = p k })
