-- Taking a unit apart.
use Rattle.std.specs.Prelude.{◌≡◌, ◌≢◌, ℕ, ◌<◌, ◌≤◌, true, List, ◌++◌, map, length, get_or}
use Rattle.world_model.specs.Sizes.{Sizes}
use Rattle.world_model.specs.NameLists.{has}
use Rattle.world_model.specs.World.{unit_of}
use Rattle.world_model.specs.Histories.{Legal, after, state_of}
use Rattle.world_model.specs.Calls.{by}
use Rattle.world_model.specs.Midway.{IsMidway}
use Rattle.heap_plain.specs.Types.{Name, Marking, Lane, Entry}
use Rattle.heap_plain.specs.Types.act
use Rattle.heap_plain.specs.Parts.{Parts, Shown}
use Rattle.heap_plain.specs.Listing.{chained}
use Rattle.heap_plain.specs.Units.{StandsAt}
use Rattle.heap_plain.specs.Plain.{Shows, IsAtRest}

-- Members have left the unit of an object since the history was `old`, and so many are left, from the head on. A list begins with their indexes.
pub record IsParting (z : Sizes) (old : Shown) (lane : ℕ) (at : Name) (head count left : ℕ) (members : List ℕ) (p : Parts) (history : List Entry) : Type 0 where
  pub rest : IsAtRest (state_of old.history)
  pub of : List Name
  pub grown : history ≡ old.history ++ by (Lane lane) (map act.Loose of)
  pub legal : Legal z history
  pub shows : Shows z p (state_of history)
  pub front : List Name
  pub stands : StandsAt p.objects (after history).units head front
  pub midway : IsMidway z (state_of history) lane (unit_of (after old.history) at) front
  pub counted : count ≡ length (unit_of (after old.history) at)
  pub size : left ≡ length front
  pub room : left ≤ length members
  pub listed : (k : ℕ) → k < left → get_or members k 0 ≡ chained p.next head k
  pub member : has (unit_of (after old.history) at) at ≡ true
  pub own : at.lane ≡ lane
  pub unmarked : p.phase ≢ Marking
  pub names : p.names ≡ old.names
