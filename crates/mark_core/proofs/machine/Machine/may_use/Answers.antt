use Rattle.std.proofs.Common.{refl}
use Rattle.mark_core.specs.Shown.{state}
use Rattle.mark_core.proofs.Numbers.{may_use_cell}
use Rattle.mark_core.proofs.machine.Machine.may_use.Goals as goal

pub returns-in-CellOf : goal.returns-in-CellOf
returns-in-CellOf c = may_use_cell c.args.self.now.shape (state c.args.self.now) c.args.lane c.args.n c.in-CellOf.unit c.in-CellOf.cell c.holds.result refl c.in-CellOf.ensures c.holds.ensures
