use Rattle.std.proofs.Common.{◌≡◌, ◌∙◌, ap, sym, subst, length, IsTrue}
use Rattle.std.proofs.lemmas.Result.{IfOk-at_ok}
use Rattle.indexmap.specs.IndexMap.{set_value_at}
use Rattle.class_schema.specs.declared.rows.ClassRow.{ClassRow}
use Rattle.class_schema.specs.Class.{Schema}
use Rattle.class_schema.specs.Row.{with_row}
use Rattle.class_schema.specs.Lawful.{has_target}
use Rattle.class_schema.specs.Rows.{texts, classes_of, Keeps}
use Rattle.class_schema.proofs.Places.{set_same}
use Rattle.class_schema.proofs.Pushing.{whenever, IsAdmitted, admits, has_room, keeps_known, sees_known, not_there}
use Rattle.class_schema.proofs.classes.ClassTable.push_field.Goals as goal

pub push-requires-clause-room : goal.push-requires-clause-room
push-requires-clause-room c =
    let i = c.self.inside in
    has_room i.slots i.names.keys i.classes.entries c.self.invariant c.args.class c.index_mut.result.now c.index_mut.ensures.value c.args.name.now c.args.line c.args.kind c.args.count
    (subst (λ (t : Schema). IsAdmitted t c.args.class c.args.name.now c.args.count) (sym c.self.view_is) (admits c.args.self.now c.args.class c.args.name.now c.args.count c.requires.admitted))

-- a class that is left as it was
as_was : (c : goal.After-from_residual) → set_value_at c.self.inside.classes.entries c.args.class.0 c.push.new.self ≡ c.self.inside.classes.entries
as_was c =
    ap (set_value_at c.self.inside.classes.entries c.args.class.0) c.in_err-push.ensures.err
    ∙ set_same c.self.inside.classes.entries c.args.class.0 c.index_mut.result.now c.index_mut.ensures.value

pub invariant_of-self : goal.invariant_of-self
invariant_of-self c = subst (Keeps c.self.inside.slots c.self.inside.names.keys) (sym (as_was c)) c.self.invariant

pub returns-in_err-push-clause-err : goal.returns-in_err-push-clause-err
returns-in_err-push-clause-err c =
    let i = c.self.inside in
    whenever c.from_residual.result ((λ t. record { slots = i.slots; classes = classes_of (texts i.names.keys) (as_was c t) }) ∙ c.self.view_is)

row_is : (c : goal.In_ok-push) → c.push.new.self ≡ with_row c.index_mut.result.now c.self.inside.slots c.in-Some.number c.args.line c.args.kind c.args.count
row_is c = IfOk-at_ok (λ _. c.push.new.self ≡ with_row c.index_mut.result.now c.self.inside.slots c.in-Some.number c.args.line c.args.kind c.args.count) c.in_ok-push.was c.push.ensures.ok

pub invariant_of-self-2 : goal.invariant_of-self-2
invariant_of-self-2 c =
    let i = c.self.inside in
    let row = c.index_mut.result.now in
    let ok =
    subst (λ (t : Schema). IsAdmitted t c.args.class c.args.name.now c.args.count) (sym c.self.view_is)
    (admits c.args.self.now c.args.class c.args.name.now c.args.count c.requires.admitted) in
    let target = subst (λ (t : Schema). IsTrue (has_target (length t.classes) c.args.kind)) (sym c.self.view_is) c.requires.target in
    subst (λ (r : ClassRow). Keeps i.slots i.names.keys (set_value_at i.classes.entries c.args.class.0 r)) (sym (row_is c))
    (keeps_known i.slots i.names.keys i.classes.entries c.self.invariant c.args.class row c.index_mut.ensures.value c.args.name.now c.args.line
    c.args.kind c.args.count ok c.requires.some c.requires.few target c.in-Some.number (sym c.in-Some.ensures.index))

pub returns-clause-ok : goal.returns-clause-ok
returns-clause-ok c =
    let i = c.self.inside in
    let ok =
    subst (λ (t : Schema). IsAdmitted t c.args.class c.args.name.now c.args.count) (sym c.self.view_is)
    (admits c.args.self.now c.args.class c.args.name.now c.args.count c.requires.admitted) in
    rw (← c.self.view_is)
    ((λ t. record { slots = i.slots; classes = classes_of (texts i.names.keys) (set_value_at i.classes.entries c.args.class.0 (row_is c t)) })
    ∙ sees_known i.slots i.names.keys i.classes.entries c.self.invariant c.args.class c.index_mut.result.now c.index_mut.ensures.value c.args.name.now
    c.args.line c.args.kind c.args.count ok c.in-Some.number (sym c.in-Some.ensures.index))

pub push_named-requires-clause-absent : goal.push_named-requires-clause-absent
push_named-requires-clause-absent c =
    let i = c.self.inside in
    rw (← c.self.view_is) (not_there i.slots i.names.keys i.classes.entries c.self.invariant c.args.name.now (sym c.in-None.ensures.index))
