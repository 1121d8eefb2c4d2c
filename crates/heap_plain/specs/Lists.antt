-- Lists without repetition.
use Rattle.std.specs.Prelude.{List, [], ◌∷◌}
use Rattle.world_model.specs.Lists.{Among}

-- no element stands in the list twice
abbrev pub Distinct : {A : Type 0} → List A → Type 0
Distinct [] = Unit {0}
Distinct (x ∷ xs) = (Among xs x → ⊥) × Distinct xs
