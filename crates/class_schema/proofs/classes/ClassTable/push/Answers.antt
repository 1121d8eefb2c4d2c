use Rattle.std.proofs.Common.{◌≡◌, ◌+◌, ◌∙◌, ◌<◌, false, ap, sym, subst, arith, List, ℕ, Some, None, length, string_bytes, ◌++◌, ◌∷◌, []}
use Rattle.std.specs.Map.{lookup}
use Rattle.std.specs.Str.{bytes_eq}
use Rattle.std.specs.String.{string_eq}
use Rattle.std.proofs.lemmas.Result.{IfOk-at_ok}
use Rattle.indexmap.specs.IndexMap.{insert_entry}
use Rattle.indexmap.proofs.CallerLemmas.{insert_entry-new}
use Rattle.class_schema.specs.declared.rows.ClassRow.{ClassRow}
use Rattle.class_schema.specs.Class.{Schema}
use Rattle.class_schema.specs.Ancestry.{parents, IsA}
use Rattle.class_schema.specs.Table.{taken}
use Rattle.class_schema.specs.Rows.{texts}
use Rattle.class_schema.proofs.Adding.{child_row}
use Rattle.class_schema.proofs.Reading.{class_none, depth_low}
use Rattle.class_schema.proofs.Pushing.{keeps_child, sees_child}
use Rattle.class_schema.proofs.classes.ClassTable.push.Goals as goal

pub overflow_add-row : goal.overflow_add-row
overflow_add-row c =
    let i = c.self.inside in
    let low = depth_low i.slots i.names.keys i.classes.entries c.self.invariant c.args.parent c.index-above.result.now c.index-above.ensures in
    omega arith

is_name : (c : goal.After-self-1) → string_bytes c.in_ok-key.key ≡ c.args.name.now
is_name c = IfOk-at_ok (λ s. string_bytes s ≡ c.args.name.now) c.in_ok-key.was c.from_str.ensures.ok

-- the new row goes last
pushed : (c : goal.After-self-1)
    → c.insert.new.self.entries
    ≡ c.self.inside.classes.entries ++ (c.in_ok-key.key, child_row c.index-above.result.now c.args.line c.args.parent c.jump_below-jump.result) ∷ []
pushed c =
    let i = c.self.inside in
    let key = c.in_ok-key.key in
    let above = c.index-above.result.now in
    let copied = IfOk-at_ok (λ rows. rows ≡ above.fields) c.in_ok-copy.was c.copy.ensures in
    let row : ClassRow =
    record {
      line = c.args.line;
      parent = Some c.args.parent;
      has_child = false;
      depth = above.depth + 1;
      jump = c.jump_below-jump.result;
      inherited = c.len.result;
      fields = c.in_ok-copy.field-0;
      refs = above.refs;
      plain = above.plain;
      ready = above.ready;
    } in
    let same : row ≡ child_row above c.args.line c.args.parent c.jump_below-jump.result
    =
    λ t.
    record {
      line = c.args.line;
      parent = Some c.args.parent;
      has_child = false;
      depth = above.depth + 1;
      jump = c.jump_below-jump.result;
      inherited = c.len.ensures t;
      fields = copied t;
      refs = above.refs;
      plain = above.plain;
      ready = above.ready;
    } in
    let absent = ap (λ (t : Schema). taken t.classes c.args.name.now) c.self.view_is ∙ c.requires.absent in
    let P : List ℕ → Type 0 = λ name. lookup (λ k. bytes_eq name (string_bytes k)) i.classes.entries ≡ None in
    let none = subst P (sym (is_name c)) (class_none (texts i.names.keys) i.classes.entries c.args.name.now absent) in
    let entries = IfOk-at_ok (λ _. c.insert.new.self.entries ≡ insert_entry string_eq i.classes.entries key row) c.in_ok-insert.was c.insert.ensures.entries in
    entries ∙ insert_entry-new string_eq i.classes key row none ∙ ap (λ r. i.classes.entries ++ (key, r) ∷ []) same

pub invariant_of-self-2 : goal.invariant_of-self-2
invariant_of-self-2 c =
    let i = c.self.inside in
    let up = subst (λ (t : Schema). IsA (parents t.classes) c.args.parent c.jump_below-jump.result) (sym c.self.view_is) c.jump_below-jump.ensures in
    let few = subst (λ (t : Schema). length t.classes < 4096) (sym c.self.view_is) c.requires.room in
    keeps_child i.slots i.names.keys i.classes.entries c.insert.new.self.entries c.self.invariant c.args.parent c.index-above.result.now
    c.index_mut.result.now c.index-above.ensures c.in_ok-key.key c.args.line c.jump_below-jump.result
    (pushed c) c.index_mut.ensures.value up few c.insert.ensures.unique

pub returns-clause-ok : goal.returns-clause-ok
returns-clause-ok c =
    let i = c.self.inside in
    rw (← c.self.view_is)
    (sees_child i.slots i.names.keys i.classes.entries c.insert.new.self.entries c.self.invariant c.args.parent c.index-above.result.now
    c.index_mut.result.now c.index-above.ensures c.in_ok-key.key c.args.line c.jump_below-jump.result
    (pushed c) c.index_mut.ensures.value c.args.name.now (is_name c))
