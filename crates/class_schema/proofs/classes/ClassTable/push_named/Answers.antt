use Rattle.std.proofs.Common.{◌≡◌, ◌∙◌, ap, sym, subst, false, string_bytes, length, IsTrue, ◌++◌, ◌∷◌, []}
use Rattle.std.specs.List.{list_any}
use Rattle.std.specs.String.{string_eq}
use Rattle.std.proofs.lemmas.Result.{IfOk-at_ok}
use Rattle.indexmap.specs.IndexMap.{set_value_at}
use Rattle.indexmap.specs.IndexSet.{insert_key}
use Rattle.class_schema.specs.declared.rows.ClassRow.{ClassRow}
use Rattle.class_schema.specs.Class.{Schema}
use Rattle.class_schema.specs.Row.{with_row}
use Rattle.class_schema.specs.Table.{has_field}
use Rattle.class_schema.specs.Lawful.{has_target}
use Rattle.class_schema.specs.Rows.{texts, classes_of, Keeps}
use Rattle.class_schema.proofs.Places.{set_same}
use Rattle.class_schema.proofs.Pushing.{whenever, IsAdmitted, admits, has_room, keeps_new, sees_new, new_key, pushed_key}
use Rattle.class_schema.proofs.classes.ClassTable.push_named.Goals as goal

pub push-requires-clause-room : goal.push-requires-clause-room
push-requires-clause-room c =
    let i = c.self.inside in
    has_room i.slots i.names.keys i.classes.entries c.self.invariant c.args.class c.index_mut.result.now c.index_mut.ensures.value c.args.name.now c.args.line c.args.kind c.args.count
    (subst (λ (t : Schema). IsAdmitted t c.args.class c.args.name.now c.args.count) (sym c.self.view_is) (admits c.args.self.now c.args.class c.args.name.now c.args.count c.requires.admitted))

-- a class that is left as it was
as_was : (c : goal.After-drop-key-in_err-push) → set_value_at c.self.inside.classes.entries c.args.class.0 c.push.new.self ≡ c.self.inside.classes.entries
as_was c =
    ap (set_value_at c.self.inside.classes.entries c.args.class.0) c.in_err-push.ensures.err
    ∙ set_same c.self.inside.classes.entries c.args.class.0 c.index_mut.result.now c.index_mut.ensures.value

pub invariant_of-self-in_err-push : goal.invariant_of-self-in_err-push
invariant_of-self-in_err-push c =
    subst (Keeps c.self.inside.slots c.reserve.new.self.keys) (sym (as_was c))
    (subst (λ keys. Keeps c.self.inside.slots keys c.self.inside.classes.entries) (sym c.reserve.ensures.keys) c.self.invariant)

pub returns-in_err-push-clause-err : goal.returns-in_err-push-clause-err
returns-in_err-push-clause-err c =
    let i = c.self.inside in
    whenever c.from_residual-in_err-push.result
    ((λ t. record { slots = i.slots; classes = classes_of (texts (c.reserve.ensures.keys t)) (as_was c t) }) ∙ c.self.view_is)

is_name : (c : goal.In_ok-insert) → string_bytes c.in_ok-key.key ≡ c.args.name.now
is_name c = IfOk-at_ok (λ s. string_bytes s ≡ c.args.name.now) c.in_ok-key.was c.from_str.ensures.ok

is_new : (c : goal.In_ok-insert) → list_any (string_eq c.in_ok-key.key) c.self.inside.names.keys ≡ false
is_new c =
    let i = c.self.inside in
    new_key i.slots i.names.keys i.classes.entries c.self.invariant c.in_ok-key.key c.args.name.now (is_name c)
    (ap (λ (t : Schema). has_field t.classes c.args.name.now) c.self.view_is ∙ c.requires.absent)

keys_are : (c : goal.In_ok-insert) → c.insert.new.self.keys ≡ c.self.inside.names.keys ++ c.in_ok-key.key ∷ []
keys_are c =
    let key = c.in_ok-key.key in
    let inserted = IfOk-at_ok (λ _. c.insert.new.self.keys ≡ insert_key string_eq c.reserve.new.self.keys key) c.in_ok-insert.was c.insert.ensures.keys in
    inserted ∙ ap (λ keys. insert_key string_eq keys key) c.reserve.ensures.keys ∙ pushed_key c.self.inside.names.keys key (is_new c)

row_is : (c : goal.In_ok-insert) → c.push.new.self ≡ with_row c.index_mut.result.now c.self.inside.slots (length c.self.inside.names.keys) c.args.line c.args.kind c.args.count
row_is c =
    let pushed = IfOk-at_ok (λ _. c.push.new.self ≡ with_row c.index_mut.result.now c.self.inside.slots c.len-number.result c.args.line c.args.kind c.args.count) c.in_ok-push.was c.push.ensures.ok in
    pushed ∙ ap (λ n. with_row c.index_mut.result.now c.self.inside.slots n c.args.line c.args.kind c.args.count) (c.len-number.ensures.len ∙ ap (λ keys. length keys) c.reserve.ensures.keys)

pub invariant_of-self-2 : goal.invariant_of-self-2
invariant_of-self-2 c =
    let i = c.self.inside in
    let row = c.index_mut.result.now in
    let ok =
    subst (λ (t : Schema). IsAdmitted t c.args.class c.args.name.now c.args.count) (sym c.self.view_is)
    (admits c.args.self.now c.args.class c.args.name.now c.args.count c.requires.admitted) in
    let target = subst (λ (t : Schema). IsTrue (has_target (length t.classes) c.args.kind)) (sym c.self.view_is) c.requires.target in
    subst (λ keys. Keeps i.slots keys (set_value_at i.classes.entries c.args.class.0 c.push.new.self)) (sym (keys_are c))
    (subst (λ (r : ClassRow). Keeps i.slots (i.names.keys ++ c.in_ok-key.key ∷ []) (set_value_at i.classes.entries c.args.class.0 r)) (sym (row_is c))
    (keeps_new i.slots i.names.keys i.classes.entries c.self.invariant c.args.class row c.index_mut.ensures.value c.args.name.now c.args.line
    c.args.kind c.args.count ok c.requires.some c.requires.few target c.in_ok-key.key (is_new c)))

pub returns-clause-ok : goal.returns-clause-ok
returns-clause-ok c =
    let i = c.self.inside in
    let ok =
    subst (λ (t : Schema). IsAdmitted t c.args.class c.args.name.now c.args.count) (sym c.self.view_is)
    (admits c.args.self.now c.args.class c.args.name.now c.args.count c.requires.admitted) in
    rw (← c.self.view_is)
    ((λ t. record { slots = i.slots; classes = classes_of (texts (keys_are c t)) (set_value_at i.classes.entries c.args.class.0 (row_is c t)) })
    ∙ sees_new i.slots i.names.keys i.classes.entries c.self.invariant c.args.class c.index_mut.result.now c.index_mut.ensures.value c.args.name.now
    c.args.line c.args.kind c.args.count ok c.in_ok-key.key (is_name c))
