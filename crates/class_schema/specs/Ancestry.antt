-- Parents, ancestors, and what a class has from them.
use Rattle.std.specs.Prelude.{◌≡◌, ℕ, zero, suc, ◌==◌, Bool, false, ◌||◌, List, [], ◌++◌, Option, Some, None, map, slice_index_or, codes}
use Rattle.std.specs.List.{list_any}
use Rattle.class_schema.specs.Types.{ClassId}
use Rattle.class_schema.specs.Types.ready
use Rattle.class_schema.specs.Class.{Class, Declaration}

-- the class that each table has from the start
abbrev pub object : Class
object = record { name = codes "Object"; line = 0; parent = None; own = []; ready = ready.After 0 }

-- the class of an id of the table
abbrev pub class_at : List Class → ClassId → Class
class_at classes id = slice_index_or classes id.0 object

-- the parents of the classes, by id
abbrev pub parents : List Class → List (Option ClassId)
parents classes = map (λ class. class.parent) classes

-- the parent of a class, where there are both
abbrev pub parent_of : List (Option ClassId) → Option ClassId → Option ClassId
parent_of parents None = None
parent_of parents (Some id) = slice_index_or parents id.0 None

-- this is a class, and of this id
abbrev pub is_id : ClassId → Option ClassId → Bool
is_id id None = false
is_id id (Some other) = other.0 == id.0

-- a class has this one as its parent
abbrev pub has_children : List (Option ClassId) → ClassId → Bool
has_children parents id = list_any (is_id id) parents

-- what is so many generations above a class
abbrev pub ancestor : List (Option ClassId) → ℕ → Option ClassId → Option ClassId
ancestor parents zero class = class
ancestor parents (suc n) class = ancestor parents n (parent_of parents class)

-- a class is another, or descends from it
abbrev pub IsA : List (Option ClassId) → ClassId → ClassId → Type 0
IsA parents class of = (n : ℕ) × (ancestor parents n (Some class) ≡ Some of)

-- the same as a test, over fewer than so many generations
abbrev pub is_within : List (Option ClassId) → ℕ → Option ClassId → ClassId → Bool
is_within parents zero class of = false
is_within parents (suc n) class of = is_id of class || is_within parents n (parent_of parents class) of

-- The same as a test. A parent has a lower id than its child, so no class has more ancestors than its id says.
unfoldable pub is_a : List Class → ClassId → ClassId → Bool
is_a classes class of = is_within (parents classes) (suc class.0) (Some class) of

-- the fields that a class adds
abbrev pub own_fields : List Class → Option ClassId → List Declaration
own_fields classes None = []
own_fields classes (Some id) = (class_at classes id).own

-- the fields of a class over fewer than so many generations: its parent's, and then its own
abbrev pub fields_within : List Class → ℕ → Option ClassId → List Declaration
fields_within classes zero class = []
fields_within classes (suc n) class = fields_within classes n (parent_of (parents classes) class) ++ own_fields classes class

-- the fields of a class: its parent's, and then its own
unfoldable pub fields : List Class → ClassId → List Declaration
fields classes class = fields_within classes (suc class.0) (Some class)
