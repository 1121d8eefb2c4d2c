use Rattle.std.proofs.Common.{◌≡◌, sym, ◌∙◌, ◌%◌, map, Some, string_bytes}
use Rattle.std.proofs.lemmas.Slice.Eq.{bytes_eq-Decides}
use Rattle.level_script.specs.Names.{number_of_name}
use Rattle.level_script.proofs.NameTables.{name_at}
use Rattle.level_script.proofs.names.NameTable.hinted.Goals as goal

pub returns-then-eq : goal.returns-then-eq
returns-then-eq c =
    let known = c.in_ok-known.known.now in
    let number = c.in_ok-hint.field-0.now % 4294967296 in
    let at : number_of_name (map string_bytes c.self.inside.names.keys) (string_bytes known) ≡ Some number =
    name_at c.self.inside.names.keys number known c.len.ensures.unique (sym c.in_ok-known.ensures.key) in
    let is : string_bytes known ≡ c.args.name.now = sym c.as_str.ensures.value ∙ (bytes_eq-Decides c.as_str.result.now c.args.name.now).0 (sym c.if-eq.ensures) in
    sym (λ t. number_of_name (c.self.view_is t) (is t)) ∙ at
