use Rattle.mark_core.specs.Shown.{state, sizes}
use Rattle.mark_core.proofs.Ranges.{target_in, root_in}
use Rattle.mark_core.proofs.machine.Machine.lane_swaps.Goals as goal

pub gain-requires-clause-unit : goal.gain-requires-clause-unit
gain-requires-clause-unit c =
    let may = rw (← c.in-CellOf.ensures) at c.requires.may in
    rw c.set_target.ensures.shape
    (target_in (sizes c.args.self.now.shape) (state c.args.self.now) c.args.lane c.in-CellOf.unit c.in-CellOf.cell c.target-old.result may.1.0
    may.1.1 c.target-old.ensures c.requires.lawful)

pub gain-requires-in-StrongOf-clause-unit : goal.gain-requires-in-StrongOf-clause-unit
gain-requires-in-StrongOf-clause-unit c =
    rw c.set_strong.ensures.shape (root_in (sizes c.args.self.now.shape) (state c.args.self.now) _ c.root-old.result c.root-old.ensures c.requires.lawful)
