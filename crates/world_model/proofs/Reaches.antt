-- The reached units are the least closed set.
use Rattle.std.proofs.Common.{◌≡◌, refl, subst, sym, Bool, List, [], ◌∷◌, ◌++◌, true, false}
use Rattle.world_model.specs.Types.{Name}
use Rattle.world_model.specs.Reach.{Graph, IsUnit, IsRootUnit, Refers, Walk, IsReached}
use Rattle.world_model.specs.Laws.{IsClosed, ReachByWalks}

-- a walk goes on by one unit
pub walk_on : (g : Graph) (u : List Name) (rest : List (List Name)) (v x : List Name) → Walk g u rest v → IsUnit g x → Refers g v x → Walk g u (rest ++ x ∷ []) x
walk_on g u [] v x walk unit refers = (unit, subst (λ (y : List Name). Refers g y x) (sym walk) refers, refl)
walk_on g u (next ∷ rest) v x walk unit refers = (walk.0, walk.1, walk_on g next rest v x walk.2 unit refers)

-- a closed set has the end of each walk that begins in it
pub walk_within : (g : Graph) (set : List Name → Bool) → IsClosed g set → (u : List Name) (rest : List (List Name)) (v : List Name) → set u ≡ true → Walk g u rest v → set v ≡ true
walk_within g set closed u [] v start walk = subst (λ (y : List Name). set y ≡ true) walk start
walk_within g set closed u (next ∷ rest) v start walk = walk_within g set closed next rest v (closed.refers u next walk.0 start walk.1) walk.2

pub reach_by_walks_holds : (g : Graph) → ReachByWalks g
reach_by_walks_holds g = record {
  roots = λ u unit is_root. record { root = u; rest = []; unit = unit; is_root = is_root; walk = refl };
  refers =
      λ u v unit reached refers.
      record {
        root = reached.root;
        rest = reached.rest ++ v ∷ [];
        unit = reached.unit;
        is_root = reached.is_root;
        walk = walk_on g reached.root reached.rest u v reached.walk unit refers;
      };
  least = λ set closed u reached. walk_within g set closed reached.root reached.rest u (closed.roots reached.root reached.unit reached.is_root) reached.walk;
}

-- the end of a walk of units is a unit
walk_ends : (g : Graph) (u : List Name) (rest : List (List Name)) (v : List Name) → IsUnit g u → Walk g u rest v → IsUnit g v
walk_ends g u [] v unit walk = subst (λ (x : List Name). IsUnit g x) walk unit
walk_ends g u (next ∷ rest) v unit walk = walk_ends g next rest v walk.0 walk.2

-- what is reached is a unit
pub reached_unit : (g : Graph) (u : List Name) → IsReached g u → IsUnit g u
reached_unit g u h = walk_ends g h.root h.rest u h.unit h.walk

-- where a test is closed, what fails it is not reached
pub outside_closed : (g : Graph) (set : List Name → Bool) → IsClosed g set → (u : List Name) → set u ≡ false → IsReached g u → ⊥
outside_closed g set closed u out reached = let within : set u ≡ true = (reach_by_walks_holds g).least set closed u reached in cc

-- what holds of each root unit, and of each unit to which one of which it holds refers, holds of the end of a walk
walk_passes : (g : Graph) (P : List Name → Type 0) → ((u v : List Name) → IsUnit g u → IsUnit g v → P u → Refers g u v → P v)
    → (u : List Name) (rest : List (List Name)) (v : List Name) → IsUnit g u → P u → Walk g u rest v → P v
walk_passes g P passes u [] v unit start walk = subst P walk start
walk_passes g P passes u (next ∷ rest) v unit start walk = walk_passes g P passes next rest v walk.0 (passes u next unit walk.0 start walk.1) walk.2

-- and so of each unit that is reached
pub reached_passes : (g : Graph) (P : List Name → Type 0) → ((u : List Name) → IsUnit g u → IsRootUnit g u → P u)
    → ((u v : List Name) → IsUnit g u → IsUnit g v → P u → Refers g u v → P v) → (u : List Name) → IsReached g u → P u
reached_passes g P roots passes u reached = walk_passes g P passes reached.root reached.rest u reached.unit (roots reached.root reached.unit reached.is_root) reached.walk
