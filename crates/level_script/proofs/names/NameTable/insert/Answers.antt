use Rattle.std.proofs.Common.{◌≡◌, ap, ◌∙◌, map, string_bytes}
use Rattle.std.proofs.lemmas.Result.{IfOk-at_ok}
use Rattle.std.specs.String.{string_eq}
use Rattle.std.specs.List.{position_or_len}
use Rattle.indexmap.specs.IndexSet.{insert_key}
use Rattle.level_script.specs.Names.{number_in, with_name}
use Rattle.level_script.proofs.NameTables.{name_number, name_added}
use Rattle.level_script.proofs.names.NameTable.insert.Goals as goal

pub returns-clause-number : goal.returns-clause-number
returns-clause-number c =
    let key = c.in_ok-key.key in
    let is_name = IfOk-at_ok (λ s. string_bytes s ≡ c.args.name.now) c.in_ok-key.was c.from_str.ensures.ok in
    let index = IfOk-at_ok (λ r. r.0 ≡ position_or_len (string_eq key) c.self.inside.names.keys) c.in_ok-number.was c.insert_full.ensures.index in
    index ∙ name_number c.self.inside.names.keys key ∙ (λ t. number_in (c.self.view_is t) (is_name t))

pub returns-clause-names : goal.returns-clause-names
returns-clause-names c =
    let key = c.in_ok-key.key in
    let is_name = IfOk-at_ok (λ s. string_bytes s ≡ c.args.name.now) c.in_ok-key.was c.from_str.ensures.ok in
    let keys = IfOk-at_ok (λ _. c.insert_full.new.self.keys ≡ insert_key string_eq c.self.inside.names.keys key) c.in_ok-number.was c.insert_full.ensures.keys in
    ap (map string_bytes) keys ∙ name_added c.self.inside.names.keys key ∙ (λ t. with_name (c.self.view_is t) (is_name t))
