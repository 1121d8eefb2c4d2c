-- The queue by which an engine destroys removed objects.
use Rattle.std.specs.Prelude.{◌≡◌, ◌≢◌, Bool, true, if◌then◌else◌, List, [], ◌∷◌, ◌++◌, map, Option, Some, None, option_and_then}
use Rattle.std.specs.List.{list_any, list_all, find, filter}
use Rattle.world_model.specs.Types.{Name}
use Rattle.world_model.specs.NameLists.{same_name, has, all_different, members, first_member, after_name}
use Rattle.world_model.specs.World.{World, Removed, Begun, Finished, is_at, destruction_order}
use Rattle.world_model.specs.Lists.{Among}

-- the names up to the first place of this one, with it
abbrev pub up_to_name : Name → List Name → List Name
up_to_name n [] = []
up_to_name n (m ∷ names) = if same_name n m then m ∷ [] else m ∷ up_to_name n names

-- the names once round, from behind the one that was asked last
abbrev pub rotated : Option Name → List Name → List Name
rotated None names = names
rotated (Some last) names = after_name last names ++ up_to_name last names

-- whether an object is removed and not released
abbrev pub in_removals : World → Name → Bool
in_removals w n = list_any (λ r. same_name n r.name) w.removals

-- the removed objects, in the order of their destruction
abbrev pub in_order : World → List Name
in_order w = members (destruction_order w)

-- No name stands twice. What is not released stands in the units of the destruction order, and the members of a unit are released together.
pub record IsOrder (w : World) : Type 0 where
  pub different : all_different (in_order w) ≡ true
  pub units_different : all_different (members w.last_removed) ≡ true
  pub removals_different : all_different (map (λ r. r.name) w.removals) ≡ true
  pub covered : (n : Name) → in_removals w n ≡ true → has (in_order w) n ≡ true
  pub whole : (u : List Name) (n m : Name) → Among (destruction_order w) u → has u n ≡ true → has u m ≡ true
      → in_removals w n ≡ true → in_removals w m ≡ true

-- All members of one unit at most are finished, and this is its first member.
pub record IsReady (order : List (List Name)) (finished : Name → Bool) (ready : Option Name) : Type 0 where
  pub first : ready ≡ option_and_then first_member (find (list_all finished) order)
  pub one : (u v : List Name) → Among order u → Among order v → list_all finished u ≡ true → list_all finished v ≡ true → u ≡ v

-- Of the objects that are not released: what is not begun; what is begun and not finished, the next one to be asked first;
-- and the first member of the unit that is to be released, if there is one.
pub record IsQueue (w : World) (asked : Option Name) (todo ring : List Name) (ready : Option Name) : Type 0 where
  pub order : IsOrder w
  pub todo_is : todo ≡ filter (is_at w Removed) (in_order w)
  pub ring_is : ring ≡ filter (is_at w Begun) (rotated asked (in_order w))
  -- none is asked before all are begun
  pub early : todo ≢ [] → (asked ≡ None) × (in_order w ≡ ring ++ todo)
  pub ready_is : IsReady (destruction_order w) (is_at w Finished) ready
