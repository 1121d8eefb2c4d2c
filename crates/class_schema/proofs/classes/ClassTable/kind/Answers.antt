use Rattle.class_schema.proofs.Reading.{kind_seen, kind_lawful}
use Rattle.class_schema.proofs.classes.ClassTable.kind.Goals as goal

pub returns-clause-kind : goal.returns-clause-kind
returns-clause-kind c =
    rw (← c.self.view_is)
    (kind_seen c.self.inside.slots c.self.inside.names.keys c.self.inside.classes.entries c.self.invariant c.args.class c.index-row.result.now
    c.index-row.ensures)

pub returns-clause-lawful : goal.returns-clause-lawful
returns-clause-lawful c =
    rw (← c.self.view_is)
    (kind_lawful c.self.inside.slots c.self.inside.names.keys c.self.inside.classes.entries c.self.invariant c.args.class c.index-row.result.now
    c.index-row.ensures)
