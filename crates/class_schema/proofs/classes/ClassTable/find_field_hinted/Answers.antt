use Rattle.std.proofs.Common.{◌∙◌, ap, sym, subst, option_map, Option, IfSome}
use Rattle.class_schema.specs.Types.{Field}
use Rattle.class_schema.specs.Lawful.{IsSchema, FitsIn}
use Rattle.class_schema.specs.declared.rows.FieldRow.{FieldRow}
use Rattle.class_schema.proofs.Labels.{number_found}
use Rattle.class_schema.proofs.Laying.{field_fits}
use Rattle.class_schema.proofs.Reading.{schema, field_at}
use Rattle.class_schema.proofs.classes.ClassTable.find_field_hinted.Goals as goal

pub returns-in-Some-clause-field : goal.returns-in-Some-clause-field
returns-in-Some-clause-field c =
    let i = c.self.inside in
    rw (← c.self.view_is)
    (ap (option_map (λ (r : FieldRow). r.field)) (sym c.in-Some.is ∙ c.find.ensures)
    ∙ sym
    (field_at i.slots i.names.keys i.classes.entries c.self.invariant c.args.class c.index.result.now c.index.ensures c.args.name.now
    c.args.guess (number_found i.names.keys c.args.name.now c.self.invariant.unique_names c.args.guess (c.is_number.ensures c.if-not-is_number.false))))

pub returns-in-None-clause-field : goal.returns-in-None-clause-field
returns-in-None-clause-field c =
    let i = c.self.inside in
    rw (← c.self.view_is)
    (ap (option_map (λ (r : FieldRow). r.field)) (sym c.in-None.is ∙ c.find.ensures)
    ∙ sym
    (field_at i.slots i.names.keys i.classes.entries c.self.invariant c.args.class c.index.result.now c.index.ensures c.args.name.now
    c.args.guess (number_found i.names.keys c.args.name.now c.self.invariant.unique_names c.args.guess (c.is_number.ensures c.if-not-is_number.false))))

pub returns-in-Some-clause-fits : goal.returns-in-Some-clause-fits
returns-in-Some-clause-fits c =
    let i = c.self.inside in
    let whole = subst IsSchema c.self.view_is (schema i.slots i.names.keys i.classes.entries c.self.invariant) in
    let found = field_fits c.args.self.now whole c.args.class c.requires c.args.name.now in
    subst (λ (o : Option Field). IfSome o (FitsIn c.args.self.now c.args.class)) (sym (returns-in-Some-clause-field c)) found
