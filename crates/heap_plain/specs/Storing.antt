-- References as the indexes of their objects.
use Rattle.std.specs.Prelude.{◌≡◌, ℕ, List, Option, Some, None}
use Rattle.heap_plain.specs.Types.{Name, Ref}
use Rattle.heap_plain.specs.Parts.{name_at}

-- the reference to the object at an index, if there is one
abbrev pub Refers : List (Option Name) → Option ℕ → Option Ref → Type 0
Refers names None None = Unit {0}
Refers names (Some t) (Some r) = (r.index ≡ t) × (name_at names t ≡ Some r.name)
Refers names _ _ = ⊥
