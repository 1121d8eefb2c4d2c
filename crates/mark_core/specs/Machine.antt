-- The state of the pure machine of marking.
use Rattle.std.specs.Prelude.{ℕ, zero, suc, ◌+◌, ◌*◌, ◌/◌, ◌==◌, Bool, true, false, if◌then◌else◌, List, Option}
pub use Rattle.world_model.specs.declared.pass.Phase.{Phase}
pub use Rattle.world_model.specs.declared.pass.Phase.TheVariants.{Idle, Marking, Gathering}
pub use Rattle.mark_core.specs.declared.types.Actor.{Actor}
pub use Rattle.mark_core.specs.declared.types.Actor.TheVariants.{Lane, Marker, Collector}
pub use Rattle.mark_core.specs.declared.types.Cell.{Cell}
pub use Rattle.mark_core.specs.declared.types.Cell.TheVariants.{CellOf, StrongOf}
pub use Rattle.mark_core.specs.declared.types.Place.{Place}
pub use Rattle.mark_core.specs.declared.types.Place.TheVariants.{Nowhere, InRow, OnStack, UnderScan, InHand, InCollector}
pub use Rattle.mark_core.specs.declared.types.Job.{Job}
pub use Rattle.mark_core.specs.declared.types.Job.TheVariants.{NoJob, Roots, Look}

-- a scan under way: its unit, the cells that it has still to settle, and what it found in the first of them
pub record Scan : Type 0 where
  pub unit : ℕ
  pub left : List ℕ
  pub found : Option ℕ

-- how many lanes, markers and units there are, and how many strong pointers each lane has
pub record Sizes : Type 0 where
  pub lanes : ℕ
  pub markers : ℕ
  pub units : ℕ
  pub strong : ℕ

-- the root bits by their number, and then the strong pointers of each lane
abbrev pub strong_place : Sizes → ℕ → ℕ → ℕ
strong_place z lane number = z.units + (lane * z.strong + number)

abbrev pub root_places : Sizes → ℕ
root_places z = z.units + z.lanes * z.strong

-- the words of a row
abbrev pub words : Sizes → ℕ
words z = (z.units + 63) / 64

-- The whole state, flat: an event changes some of its fields and leaves the others as they are.
-- Units, cells, lanes and markers go by number.
pub record Core : Type 0 where
  -- the gate
  pub phase : Phase
  pub parity : Bool
  pub dirty : Bool
  -- the lanes and the markers that have a frame open
  pub lane_open : ℕ → Bool
  pub marker_open : ℕ → Bool
  -- the units. A place without a unit counts as doomed
  pub doomed : ℕ → Bool
  pub marked : ℕ → Bool
  -- the cells of each unit by their numbers, in the order in which a scan reads them, and what each cell names
  pub cells : ℕ → List ℕ
  pub cell : ℕ → Option ℕ
  -- what each place of the root set names: a root bit its unit where it is set, a strong pointer its target
  pub root : ℕ → Option ℕ
  -- where each unit stands, and whether it was scanned since the marking began
  pub place : ℕ → Place
  pub scanned : ℕ → Bool
  -- the lanes: the units that they hold, their hands, and whether they owe the dirty bit
  pub holds : ℕ → ℕ → Bool
  pub hand : ℕ → Option ℕ
  pub lane_owes : ℕ → Bool
  -- the markers
  pub scan : ℕ → Option Scan
  pub marker_owes : ℕ → Bool
  -- the collector
  pub job : Job
  pub own_hand : Option ℕ
  pub own_found : ℕ → Bool

-- how many of the first n pass the test
unfoldable pub count_below : (ℕ → Bool) → ℕ → ℕ
count_below f zero = 0
count_below f (suc n) = if f n then suc (count_below f n) else count_below f n

-- the number of open frames
abbrev pub frames : Sizes → Core → ℕ
frames z c = count_below c.lane_open z.lanes + count_below c.marker_open z.markers

-- whether two places are one
abbrev pub same_place : Place → Place → Bool
same_place Nowhere Nowhere = true
same_place (InRow a) (InRow b) = a == b
same_place (OnStack a) (OnStack b) = a == b
same_place (UnderScan a) (UnderScan b) = a == b
same_place (InHand a) (InHand b) = a == b
same_place InCollector InCollector = true
same_place _ _ = false

-- whether the bit of a unit in a row is set
abbrev pub row_bit : (ℕ → Place) → ℕ → ℕ → Bool
row_bit place row u = same_place (place u) (InRow row)
