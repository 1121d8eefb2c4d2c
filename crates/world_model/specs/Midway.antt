-- A unit that is being taken apart.
use Rattle.std.specs.Prelude.{◌≡◌, ◌≢◌, ℕ, ◌<◌, ◌≤◌, ◌⊎◌, true, List, [], ◌++◌, length, None}
use Rattle.world_model.specs.Types.{Name, Kind, Marking, Lane}
use Rattle.world_model.specs.Sizes.{Sizes}
use Rattle.world_model.specs.NameLists.{has, all_different}
use Rattle.world_model.specs.World.{is_open}
use Rattle.world_model.specs.State.{State}
use Rattle.world_model.specs.Lists.{Among}

-- each member was made by its lane, no name stands in two units, and none twice in one; and each unit is of one lane
pub record AreApart (kinds : ℕ → List Kind) (units : List (List Name)) : Type 0 where
  pub made : (u : List Name) (n : Name) → Among units u → has u n ≡ true → n.count ≤ length (kinds n.lane)
  pub apart : (u v : List Name) (n : Name) → Among units u → Among units v → has u n ≡ true → has v n ≡ true → u ≡ v
  pub different : (u : List Name) → Among units u → all_different u ≡ true
  pub one_lane : (u : List Name) (n m : Name) → Among units u → has u n ≡ true → has u m ≡ true → n.lane ≡ m.lane

-- A lane has taken some members out of a unit, and is left with these; at first with all.
pub record IsMidway (z : Sizes) (s : State) (lane : ℕ) (whole front : List Name) : Type 0 where
  pub in_range : lane < z.lanes
  pub opened : is_open s.world (Lane lane) ≡ true
  pub none_owed : (s.frames lane).owed ≡ None
  pub unmarked : s.world.phase ≢ Marking
  pub apart : AreApart s.world.kinds s.world.units
  pub unit : Among s.world.units front
  pub held : (n : Name) → has whole n ≡ true → has (s.frames lane).held n ≡ true
  pub own : (n : Name) → has front n ≡ true → n.lane ≡ lane
  pub so_far : (((s.frames lane).broken ≡ []) × (whole ≡ front)) ⊎ (((s.frames lane).broken ≡ whole) × (whole ≡ front ++ (s.frames lane).loosened))
