use Rattle.std.proofs.Common.{string_bytes, codes, ◌≡◌, false, ◌∙◌, sym, subst, [], ◌∷◌, None}
use Rattle.std.proofs.lemmas.Result.{IfOk-at_ok}
use Rattle.std.specs.String.{string_eq}
use Rattle.indexmap.specs.IndexMap.{insert_entry}
use Rattle.class_schema.specs.declared.rows.ClassRow.{ClassRow}
use Rattle.class_schema.specs.Types.ready
use Rattle.class_schema.specs.Rows.{Keeps}
use Rattle.class_schema.proofs.Starting.{object_row, keeps_object}
use Rattle.class_schema.proofs.classes.ClassTable.new.Goals as goal

pub invariant_of-result : goal.invariant_of-result
invariant_of-result c =
    let key = c.in_ok-name.name in
    let row : ClassRow = record { line = 0; parent = None; has_child = false; depth = 0; jump = record { 0 = 0 }; inherited = 0; fields = c.new.result; refs = 0; plain = 0; ready = ready.After 0 } in
    let same : row ≡ object_row =
    λ t.
    record {
      line = 0;
      parent = None;
      has_child = false;
      depth = 0;
      jump = record { 0 = 0 };
      inherited = 0;
      fields = c.new.ensures t;
      refs = 0;
      plain = 0;
      ready = ready.After 0;
    } in
    let entries = IfOk-at_ok (λ _. c.insert.new.self.entries ≡ insert_entry string_eq c.new-classes.result.entries key row) c.in_ok-insert.was c.insert.ensures.entries in
    let one : c.insert.new.self.entries ≡ (key, object_row) ∷ [] = entries ∙ (λ t. insert_entry string_eq (c.new-classes.ensures.empty t) key (same t)) in
    subst (λ keys. Keeps c.args.slots keys c.insert.new.self.entries) (sym c.new-names.ensures.empty)
    (subst (Keeps c.args.slots []) (sym one) (keeps_object c.args.slots key (IfOk-at_ok (λ s. string_bytes s ≡ codes "Object") c.in_ok-name.was c.from_str.ensures.ok) c.requires.some c.requires.few))
