use Rattle.mark_core.specs.Shown.{state, sizes}
use Rattle.mark_core.proofs.Ranges.{target_in, root_in}
use Rattle.mark_core.proofs.machine.Machine.lane_loads.Goals as goal

pub gain-requires-clause-unit : goal.gain-requires-clause-unit
gain-requires-clause-unit c =
    let may = rw (← c.in-CellOf.ensures) at c.requires.may in
    target_in (sizes c.args.self.now.shape) (state c.args.self.now) c.args.lane c.in-CellOf.unit c.in-CellOf.cell c.target-got.result may.1.0 may.1.1 c.target-got.ensures c.requires.lawful

pub gain-requires-in-StrongOf-clause-unit : goal.gain-requires-in-StrongOf-clause-unit
gain-requires-in-StrongOf-clause-unit c = root_in (sizes c.args.self.now.shape) (state c.args.self.now) _ c.root-got.result c.root-got.ensures c.requires.lawful
