use Rattle.std.proofs.Common.{sym}
use Rattle.class_schema.proofs.Reading.{admitted_low}
use Rattle.class_schema.proofs.classes.ClassTable.add_class.Goals as goal

pub push-requires-clause-parent : goal.push-requires-clause-parent
push-requires-clause-parent c = admitted_low c.args.self.now.classes c.args.name.now c.args.parent.now c.in-Ok.parent (sym c.in-Ok.ensures)
