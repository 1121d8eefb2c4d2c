-- What plain cells and weak variables have, as far as a script can tell.
use Rattle.std.specs.Prelude.{ℕ, ◌==◌, Bool, true, false, Option, None}
use Rattle.world_model.specs.NameLists.{same_name}
use Rattle.world_play.specs.Types.{Name}
use Rattle.world_play.specs.Bindings.{BindingsOf, none_bound}

-- nothing, which is the number 0 and the empty pair; a number; the pair of an object, which is told by the object and not by its index and serial; or a forged pair of an index
pub data Value : Type 0 where
  Nothing : Value
  Number : ℕ → Value
  Own : Name → Value
  Forged : ℕ → Value

-- the number that a cell has
abbrev pub number_of : Value → ℕ
number_of (Number n) = n
number_of _ = 0

-- the pair that a cell has
abbrev pub pair_of : Value → Value
pair_of (Own n) = Own n
pair_of (Forged index) = Forged index
pair_of _ = Nothing

-- the value is a pair with a serial
abbrev pub is_pair : Value → Bool
is_pair (Own n) = true
is_pair (Forged index) = true
is_pair _ = false

-- two weak variables have the same pair
abbrev pub same_value : Value → Value → Bool
same_value Nothing Nothing = true
same_value (Own n) (Own m) = same_name n m
same_value (Forged i) (Forged j) = i == j
same_value _ _ = false

-- what the variables have, and the plain cell of an object at a slot
pub record Seen : Type 0 where
  pub names : BindingsOf Value
  pub plain : Name → ℕ → Value

-- no variable stands for an object, and no plain cell has anything
abbrev pub first_seen : Seen
first_seen = record { names = none_bound Nothing; plain = λ n slot. Nothing }
