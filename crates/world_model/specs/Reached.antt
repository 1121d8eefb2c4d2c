-- Reachability as a test: what walks of so many steps reach.
use Rattle.std.specs.Prelude.{◌≡◌, ◌↔◌, ℕ, ◌≤◌, zero, suc, Bool, true, false, ◌&&◌, ◌||◌, List, length, Option, Some, None}
use Rattle.std.specs.List.{list_any, range_with_len}
use Rattle.world_model.specs.Types.{Name}
use Rattle.world_model.specs.NameLists.{has}
use Rattle.world_model.specs.Reach.{Graph, IsUnit, IsRootUnit, IsReached}

-- the elements that walks of at most so many steps reach, from those that meet a test, each step to an element of the list
unfoldable pub within_steps : {A : Type 0} → (A → Bool) → (A → A → Bool) → List A → ℕ → A → Bool
within_steps root edge xs zero x = root x
within_steps root edge xs (suc k) x = within_steps root edge xs k x || list_any (λ y. within_steps root edge xs k y && edge y x) xs

-- a cell names a member of the unit
abbrev pub names_member : Option Name → List Name → Bool
names_member None v = false
names_member (Some to) v = has v to

-- one of the first cells of an object names a member of v
abbrev pub object_refers : ℕ → Graph → Name → List Name → Bool
object_refers slots g from v = list_any (λ slot. names_member (g.cell from slot) v) (range_with_len 0 slots)

-- u refers to v
abbrev pub refers_to : ℕ → Graph → List Name → List Name → Bool
refers_to slots g u v = list_any (λ from. object_refers slots g from v) u

-- A unit is reached, where objects have so many cells and these are the tests of root units. No walk has to come to a unit twice.
abbrev pub is_reached : ℕ → (List Name → Bool) → Graph → List Name → Bool
is_reached slots root g u = within_steps root (refers_to slots g) g.units (length g.units) u

-- the cells of objects are empty from a slot on
abbrev pub HasSlots : ℕ → Graph → Type 0
HasSlots slots g = (from : Name) (slot : ℕ) → slots ≤ slot → g.cell from slot ≡ None

-- the test says which units are root units
pub record TellsRoots (g : Graph) (root : List Name → Bool) : Type 0 where
  pub sound : (u : List Name) → root u ≡ true → IsRootUnit g u
  pub whole : (u : List Name) → IsRootUnit g u → root u ≡ true

-- the test tells which units are reached
abbrev pub ReachBySteps : Type 0
ReachBySteps = (slots : ℕ) (root : List Name → Bool) (g : Graph) (u : List Name) → HasSlots slots g → TellsRoots g root → IsUnit g u → (is_reached slots root g u ≡ true) ↔ IsReached g u
