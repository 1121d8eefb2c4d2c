-- The search for a field by the number of its name.
use Rattle.std.proofs.Common.{◌≡◌, ℕ, ◌+◌, ◌<◌, ◌≤◌, ◌==◌, sym, ap, ◌∙◌, cond, List, length, drop, Option, Some, None, slice_index_or}
use Rattle.std.specs.List.{find}
use Rattle.std.proofs.lemmas.Bool.{eq-eqb, ne_eqb}
use Rattle.std.proofs.lemmas.List.{at_drop_more, at_drop_all}
use Rattle.class_schema.specs.declared.rows.FieldRow.{FieldRow}

module _ (name : ℕ) (rows : List FieldRow) (i : ℕ) where
  abbrev look : List FieldRow → Option FieldRow
  look = find (λ (r : FieldRow). r.name == name)

  -- this is not the field
  pub looks_on : (d : FieldRow) → i < length rows → ((slice_index_or rows i d).name ≡ name → ⊥) → look (drop i rows) ≡ look rows → look (drop (i + 1) rows) ≡ look rows
  looks_on d lt other so_far = sym (at_drop_more look rows i d lt ∙ ap (λ b. cond b (Some (slice_index_or rows i d)) (look (drop (i + 1) rows))) (ne_eqb _ name other)) ∙ so_far

  -- this is the field
  pub looks_here : (d : FieldRow) → i < length rows → (slice_index_or rows i d).name ≡ name → look (drop i rows) ≡ look rows → Some (slice_index_or rows i d) ≡ look rows
  looks_here d lt same so_far = sym (at_drop_more look rows i d lt ∙ ap (λ b. cond b (Some (slice_index_or rows i d)) (look (drop (i + 1) rows))) (eq-eqb _ name same)) ∙ so_far

  -- no field is left
  pub looks_out : length rows ≤ i → look (drop i rows) ≡ look rows → None ≡ look rows
  looks_out past so_far = sym (at_drop_all look rows i past) ∙ so_far
