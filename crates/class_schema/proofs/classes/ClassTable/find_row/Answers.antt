use Rattle.std.proofs.Common.{◌∙◌, ap, sym, arith, length, option_map}
use Rattle.class_schema.specs.Class.{Schema}
use Rattle.class_schema.specs.declared.rows.FieldRow.{FieldRow}
use Rattle.class_schema.proofs.Reading.{line_at, line_gone, field_at, field_gone}
use Rattle.class_schema.proofs.classes.ClassTable.find_row.Goals as goal

pub returns-in-Some-clause-line : goal.returns-in-Some-clause-line
returns-in-Some-clause-line c =
    let i = c.self.inside in
    rw (← c.self.view_is)
    (ap (option_map (λ (r : FieldRow). r.line)) c.find.ensures
    ∙ sym
    (line_at i.slots i.names.keys i.classes.entries c.self.invariant c.args.class c.index.result.now c.index.ensures c.args.name.now
    c.in-Some.number (sym c.in-Some.ensures.index)))

pub returns-in-Some-clause-field : goal.returns-in-Some-clause-field
returns-in-Some-clause-field c =
    let i = c.self.inside in
    rw (← c.self.view_is)
    (ap (option_map (λ (r : FieldRow). r.field)) c.find.ensures
    ∙ sym
    (field_at i.slots i.names.keys i.classes.entries c.self.invariant c.args.class c.index.result.now c.index.ensures c.args.name.now
    c.in-Some.number (sym c.in-Some.ensures.index)))

pub returns-in-None-clause-line : goal.returns-in-None-clause-line
returns-in-None-clause-line c =
    let i = c.self.inside in
    let low = ap (λ (t : Schema). length t.classes) c.self.view_is in
    let here = c.requires in
    rw (← c.self.view_is) (sym (line_gone i.slots i.names.keys i.classes.entries c.self.invariant c.args.class (omega arith) c.args.name.now (sym c.in-None.ensures.index)))

pub returns-in-None-clause-field : goal.returns-in-None-clause-field
returns-in-None-clause-field c =
    let i = c.self.inside in
    let low = ap (λ (t : Schema). length t.classes) c.self.view_is in
    let here = c.requires in
    rw (← c.self.view_is) (sym (field_gone i.slots i.names.keys i.classes.entries c.self.invariant c.args.class (omega arith) c.args.name.now (sym c.in-None.ensures.index)))
