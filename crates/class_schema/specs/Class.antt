-- A table as the list of its classes.
use Rattle.std.specs.Prelude.{ℕ, List, Option}
use Rattle.class_schema.specs.Types.{ClassId, Ready, FieldKind}

-- a field as a line tells it: its name, the line, what its elements are, and how many it has
pub record Declaration : Type 0 where
  pub name : List ℕ
  pub line : ℕ
  pub kind : FieldKind
  pub count : ℕ

-- a class: its name, the line that told it, its parent, the fields that it adds, and when its objects are ready
pub record Class : Type 0 where
  pub name : List ℕ
  pub line : ℕ
  pub parent : Option ClassId
  pub own : List Declaration
  pub ready : Ready

-- the slots of each object, and the classes by id
pub record Schema : Type 0 where
  pub slots : ℕ
  pub classes : List Class
