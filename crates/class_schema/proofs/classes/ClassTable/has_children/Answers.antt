use Rattle.class_schema.proofs.Reading.{children_seen}
use Rattle.class_schema.proofs.classes.ClassTable.has_children.Goals as goal

pub returns : goal.returns
returns c = rw (← c.self.view_is) (children_seen c.self.inside.slots c.self.inside.names.keys c.self.inside.classes.entries c.self.invariant c.args.class c.index.result.now c.index.ensures)
