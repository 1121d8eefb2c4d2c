-- What one more field makes of what is kept of a class.
use Rattle.std.specs.Prelude.{ℕ, ◌+◌, ◌-◌, [], ◌∷◌, ◌++◌, if◌then◌else◌}
use Rattle.class_schema.specs.Types.{FieldKind}
use Rattle.class_schema.specs.Layout.{is_ref}
use Rattle.class_schema.specs.declared.rows.FieldRow.{FieldRow}
use Rattle.class_schema.specs.declared.rows.ClassRow.{ClassRow}

-- the row of a field behind those of a class
abbrev pub next_row : ClassRow → ℕ → ℕ → ℕ → FieldKind → ℕ → FieldRow
next_row row slots name line kind count =
    let first = if is_ref kind then row.refs else (slots - 1) - row.plain in
    record { name = name; line = line; field = record { kind = kind; first = first; count = count } }

-- the class with one more field
abbrev pub with_row : ClassRow → ℕ → ℕ → ℕ → FieldKind → ℕ → ClassRow
with_row row slots name line kind count =
    record row {
      fields = row.fields ++ next_row row slots name line kind count ∷ [];
      refs = row.refs + (if is_ref kind then count else 0);
      plain = row.plain + (if is_ref kind then 0 else count);
    }
