-- Reachability from the root set.
use Rattle.std.specs.Prelude.{◌≡◌, ℕ, Bool, ◌⊎◌, List, [], ◌∷◌, Option, Some, IsTrue, Contains}
use Rattle.world_model.specs.Types.{Name}
use Rattle.world_model.specs.NameLists.{has}
use Rattle.world_model.specs.World.{World}

-- the units, the references and the root set
pub record Graph : Type 0 where
  pub units : List (List Name)
  pub cell : Name → ℕ → Option Name
  pub rooted : Name → Bool
  pub strong : ℕ → ℕ → Option Name

-- those of a world
abbrev pub graph : World → Graph
graph w = record { units = w.units; cell = w.cell; rooted = w.rooted; strong = w.strong }

abbrev pub IsUnit : Graph → List Name → Type 0
IsUnit g u = Contains g.units u

-- u refers to v: a reference cell of a member of u names a member of v
pub record Refers (g : Graph) (u v : List Name) : Type 0 where
  pub from : Name
  pub slot : ℕ
  pub to : Name
  pub cell : g.cell from slot ≡ Some to
  pub member : IsTrue (has u from)
  pub target : IsTrue (has v to)

-- the object is in the root set: it is rooted, or a strong pointer names it
abbrev pub IsRoot : Graph → Name → Type 0
IsRoot g n = IsTrue (g.rooted n) ⊎ ((lane : ℕ) × (number : ℕ) × (g.strong lane number ≡ Some n))

-- a root unit: a member is in the root set
abbrev pub IsRootUnit : Graph → List Name → Type 0
IsRootUnit g u = (n : Name) × IsTrue (has u n) × IsRoot g n

-- each of these units refers to the next, from u on and up to v
abbrev pub Walk : Graph → List Name → List (List Name) → List Name → Type 0
Walk g u [] v = u ≡ v
Walk g u (next ∷ rest) v = IsUnit g next × Refers g u next × Walk g next rest v

-- the unit is the last of a walk that begins with a root unit
pub record IsReached (g : Graph) (v : List Name) : Type 0 where
  pub root : List Name
  pub rest : List (List Name)
  pub unit : IsUnit g root
  pub is_root : IsRootUnit g root
  pub walk : Walk g root rest v
