-- What the variables of the player show.
use Rattle.std.specs.Prelude.{◌≡◌, ◌<◌, ℕ, List, [], ◌∷◌, length, map, slice_get, slice_index, slice_index_or, Option, Some, None, option_and_then, option_map}
use Rattle.world_model.specs.NameLists.{set_at}
use Rattle.world_play.specs.Types.{Ref, Weak, Member}
use Rattle.world_play.specs.Pairs.{no_pair}
use Rattle.world_model.specs.Engines.{Holdings}
use Rattle.world_play.specs.Bindings.{Bindings}
use Rattle.world_play.specs.Slots.{live}
use Rattle.world_play.specs.declared.variables.LaneVariables.{LaneVariables}
use Rattle.world_play.specs.declared.variables.Variables.{Variables}

-- ---- what a caller sees

-- how many variables each lane has, and how many weak ones there are
pub record Numbers : Type 0 where
  pub lanes : List ℕ
  pub weaks : ℕ

-- the reference that each variable of a lane stands for, by lane and number, and the pair that each weak variable has, by number
pub record Standing : Type 0 where
  pub refs : ℕ → ℕ → Option Ref
  pub weaks : ℕ → Weak
  pub counts : Numbers

-- so many variables, of which none stands for an object; each weak one has the empty pair
abbrev pub unbound : List ℕ → ℕ → Standing
unbound counts weaks = record { refs = λ lane var. None; weaks = λ weak. no_pair; counts = record { lanes = counts; weaks = weaks } }

-- one variable stands for another object, or for none
abbrev pub with_ref : Standing → ℕ → ℕ → Option Ref → Standing
with_ref v lane var to = record { refs = set_at v.refs lane (set_at (v.refs lane) var to); weaks = v.weaks; counts = v.counts }

-- the variables of the members of a cluster stand for these objects in order
abbrev pub with_members : Standing → ℕ → List Member → List Ref → Standing
with_members v lane [] refs = v
with_members v lane (m ∷ members) [] = v
with_members v lane (m ∷ members) (r ∷ refs) = with_members (with_ref v lane m.var (Some r)) lane members refs

-- they stand for none
abbrev pub without_members : Standing → ℕ → List Member → Standing
without_members v lane [] = v
without_members v lane (m ∷ members) = without_members (with_ref v lane m.var None) lane members

-- one weak variable has another pair
abbrev pub with_weak : Standing → ℕ → Weak → Standing
with_weak v weak pair = record { refs = v.refs; weaks = set_at v.weaks weak pair; counts = v.counts }

-- the variables of a lane end
abbrev pub without_refs : Standing → ℕ → Standing
without_refs v lane = record { refs = set_at v.refs lane (λ var. None); weaks = v.weaks; counts = v.counts }

-- a lane has a variable of this number
pub record HasVariable (v : Standing) (lane var : ℕ) : Type 0 where
  pub lane_there : lane < length v.counts.lanes
  pub var_there : var < slice_index v.counts.lanes lane

-- there is a weak variable of this number
abbrev pub HasWeak : Standing → ℕ → Type 0
HasWeak v weak = weak < v.counts.weaks

-- the objects that the variables stand for, and the pairs that the weak ones have
abbrev pub shown : Standing → Bindings
shown v = record { objects = λ lane var. option_map (λ r. r.name) (v.refs lane var); weaks = v.weaks }

-- each variable that stands for an object stands for one that its lane holds
abbrev pub AreHeld : Holdings → Standing → Type 0
AreHeld holds v = (lane var : ℕ) (r : Ref) → v.refs lane var ≡ Some r → holds lane r

-- ---- how it is kept

-- the object of a lane's variable
abbrev pub lane_ref : LaneVariables → ℕ → Option Ref
lane_ref lane var = option_and_then (live lane.frame) (slice_get lane.slots.items var)

-- the object that a variable stands for
abbrev pub ref_of : List LaneVariables → ℕ → ℕ → Option Ref
ref_of lanes lane var = option_and_then (λ l. lane_ref l var) (slice_get lanes lane)

-- how many variables each lane has
abbrev pub numbers_of : List LaneVariables → List ℕ
numbers_of lanes = map (λ l. length l.slots.items) lanes

-- the pair of a weak variable
abbrev pub weak_of : List Weak → ℕ → Weak
weak_of weaks weak = slice_index_or weaks weak no_pair

-- what the variables show
abbrev pub standing : Variables → Standing
standing v =
    record {
      refs = ref_of v.lanes.items;
      weaks = weak_of v.weaks.items;
      counts = record { lanes = numbers_of v.lanes.items; weaks = length v.weaks.items };
    }
