use Rattle.std.proofs.Common.{◌∙◌}
use Rattle.class_schema.proofs.Reading.{has_seen}
use Rattle.class_schema.proofs.classes.ClassTable.has_field.Goals as goal

pub returns : goal.returns
returns c = rw (← c.self.view_is) (c.contains.ensures ∙ has_seen c.self.inside.slots c.self.inside.names.keys c.self.inside.classes.entries c.self.invariant c.args.name.now)
