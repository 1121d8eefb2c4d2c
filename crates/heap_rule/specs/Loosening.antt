-- A unit that a lane takes apart: the head that it has prepared, and the object that has just left.
use Rattle.std.specs.Prelude.{◌≡◌, ◌≢◌, ℕ, Bool, true, List, [], ◌∷◌, Option, Some}
use Rattle.world_model.specs.NameLists.{ends_with}
use Rattle.heap_rule.specs.Types.{Name, Phase, Marking}
use Rattle.heap_rule.specs.Items.{Spot, Holds}

-- the lane's frame is open, no collection marks, and the item is that of an object of the lane that lives
pub record IsOwnItem (phase : Phase) (opened : Bool) (spot : ℕ → Spot) (living : Name → Bool) (l i : ℕ) (n : Name) : Type 0 where
  pub open_now : opened ≡ true
  pub unmarked : phase ≢ Marking
  pub item : spot i ≡ Holds n
  pub lives : living n ≡ true
  pub own : n.lane ≡ l

-- a prepared head is that of the last member of a unit of two or more; a loose object is a unit by itself, and its lane is amid taking apart the unit that it left
pub record LoosensShown (phase : Phase) (lane_open : ℕ → Bool) (spot : ℕ → Spot) (living : Name → Bool) (unit : Name → List Name) (broken : ℕ → List Name) (prepared loose : ℕ → Option ℕ) : Type 0 where
  pub prepares : (l i : ℕ) → prepared l ≡ Some i → (n : Name) × IsOwnItem phase (lane_open l) spot living l i n × (ends_with n (unit n) ≡ true)
  pub leaves : (l i : ℕ) → loose l ≡ Some i → (n : Name) × IsOwnItem phase (lane_open l) spot living l i n × (unit n ≡ n ∷ []) × (broken l ≢ [])
