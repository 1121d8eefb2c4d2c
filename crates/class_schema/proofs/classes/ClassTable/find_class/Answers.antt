use Rattle.std.proofs.Common.{ap, ◌∙◌, option_map}
use Rattle.class_schema.specs.Table.{find_class, id_of}
use Rattle.class_schema.specs.Rows.{texts}
use Rattle.class_schema.proofs.Reading.{class_found}
use Rattle.class_schema.proofs.classes.ClassTable.find_class.Goals as goal

pub returns-in-Some-clause-class : goal.returns-in-Some-clause-class
unfolding find_class
returns-in-Some-clause-class c = rw (← c.self.view_is) (ap (option_map id_of) (c.in-Some.ensures.index ∙ class_found (texts c.self.inside.names.keys) c.self.inside.classes.entries c.args.name.now))

pub returns-in-None-clause-class : goal.returns-in-None-clause-class
unfolding find_class
returns-in-None-clause-class c = rw (← c.self.view_is) (ap (option_map id_of) (c.in-None.ensures.index ∙ class_found (texts c.self.inside.names.keys) c.self.inside.classes.entries c.args.name.now))
