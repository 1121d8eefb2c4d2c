use Rattle.std.proofs.Common.{◌≡◌, ◌==◌, drop}
use Rattle.std.specs.List.{find}
use Rattle.class_schema.specs.declared.rows.FieldRow.{FieldRow}
use Rattle.class_schema.proofs.rows.first_named.Given as goal

-- what is left has the answer
abbrev pub invariant-loop-row : goal.invariant-loop-row
invariant-loop-row l = find (λ (r : FieldRow). r.name == l.name) (drop l.row-index l.rows) ≡ find (λ (r : FieldRow). r.name == l.name) l.rows
