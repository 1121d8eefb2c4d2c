use Rattle.class_schema.proofs.Reading.{schema}
use Rattle.class_schema.proofs.classes.ClassTable.lawful.Goals as goal

pub returns : goal.returns
returns c = rw (← c.self.view_is) (schema c.self.inside.slots c.self.inside.names.keys c.self.inside.classes.entries c.self.invariant)
