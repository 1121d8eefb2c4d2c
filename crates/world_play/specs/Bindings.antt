-- The variables of a script, and what they stand for.
use Rattle.std.specs.Prelude.{ℕ, ◌+◌, List, [], ◌∷◌, Option, None, option_map}
use Rattle.world_model.specs.NameLists.{set_at}
use Rattle.world_play.specs.Types.{Name, Weak, Member}
use Rattle.world_play.specs.Pairs.{no_pair}

-- what variables stand for, where a weak one has a value of this type
pub record BindingsOf (W : Type 0) : Type 0 where
  -- the object that each variable of a lane stands for, by lane and number; they end with the lane's frame
  pub objects : ℕ → ℕ → Option Name
  -- what each weak variable has, by number; they last to the end of the script
  pub weaks : ℕ → W

-- a weak variable has a pair
abbrev pub Bindings : Type 0
Bindings = BindingsOf Weak

-- no variable stands for an object, and each weak one has this value
abbrev pub none_bound : {W : Type 0} → W → BindingsOf W
none_bound empty = record { objects = λ lane var. None; weaks = λ weak. empty }

abbrev pub no_bindings : Bindings
no_bindings = none_bound no_pair

-- one variable stands for another object, or for none
abbrev pub bound : {W : Type 0} → BindingsOf W → ℕ → ℕ → Option Name → BindingsOf W
bound names lane var to = record names { objects = set_at names.objects lane (set_at (names.objects lane) var to) }

-- the name behind this one, in its lane
abbrev pub next_of : Name → Name
next_of n = record { lane = n.lane; count = n.count + 1 }

-- the variables of the members of a cluster stand for its members in order, from this first one on, or for none
abbrev pub members_bound : {W : Type 0} → BindingsOf W → ℕ → List Member → Option Name → BindingsOf W
members_bound names lane [] first = names
members_bound names lane (m ∷ members) first = members_bound (bound names lane m.var first) lane members (option_map next_of first)

-- one weak variable has another value
abbrev pub weak_bound : {W : Type 0} → BindingsOf W → ℕ → W → BindingsOf W
weak_bound names weak value = record names { weaks = set_at names.weaks weak value }

-- the variables of a lane end
abbrev pub ended : {W : Type 0} → BindingsOf W → ℕ → BindingsOf W
ended names lane = record names { objects = set_at names.objects lane (λ var. None) }
