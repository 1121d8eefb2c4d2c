use Rattle.std.proofs.Common.{ap, ◌∙◌, option_map}
use Rattle.class_schema.specs.declared.rows.ClassRow.{ClassRow}
use Rattle.class_schema.specs.Rows.{texts}
use Rattle.class_schema.proofs.Reading.{class_taken}
use Rattle.class_schema.proofs.classes.ClassTable.taken.Goals as goal

pub returns-in-Some : goal.returns-in-Some
returns-in-Some c =
    rw (← c.self.view_is)
    (ap (option_map (λ (row : ClassRow). row.line)) c.in-Some.ensures.value
    ∙ class_taken (texts c.self.inside.names.keys) c.self.inside.classes.entries c.args.name.now)

pub returns-in-None : goal.returns-in-None
returns-in-None c =
    rw (← c.self.view_is)
    (ap (option_map (λ (row : ClassRow). row.line)) c.in-None.ensures.value
    ∙ class_taken (texts c.self.inside.names.keys) c.self.inside.classes.entries c.args.name.now)
