-- What a script tells before its lines: its classes, and the names of its fields, by number.
use Rattle.std.specs.Prelude.{ℕ, List}
use Rattle.class_schema.specs.Class.{Schema}

pub record Header : Type 0 where
  pub classes : Schema
  pub fields : List (List ℕ)
