use Rattle.std.proofs.Common.{subst, sym, Option, IfSome}
use Rattle.class_schema.specs.Types.{Field}
use Rattle.class_schema.specs.Lawful.{IsSchema, FitsIn}
use Rattle.class_schema.proofs.Laying.{field_fits}
use Rattle.class_schema.proofs.Reading.{schema}
use Rattle.class_schema.proofs.classes.ClassTable.find_field.Goals as goal

pub returns-in-Some-clause-fits : goal.returns-in-Some-clause-fits
returns-in-Some-clause-fits c =
    let i = c.self.inside in
    let whole = subst IsSchema c.self.view_is (schema i.slots i.names.keys i.classes.entries c.self.invariant) in
    let found = field_fits c.args.self.now whole c.args.class c.requires c.args.name.now in
    subst (λ (o : Option Field). IfSome o (FitsIn c.args.self.now c.args.class)) (sym c.in-Some.ensures.field) found
