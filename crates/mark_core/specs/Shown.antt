-- The state of the machine that a `Core` shows.
use Rattle.std.specs.Prelude.{◌≡◌, ℕ, ◌+◌, ◌*◌, ◌-◌, ◌<◌, ◌≤◌, ◌^◌, nat_lt, Bool, false, if◌then◌else◌, List, [], ◌∷◌, length, Option, Some, None, IfSome, zero, suc}
use lib.ListN.{get_or}
use Rattle.mark_core.specs.declared.types.Shape.{Shape}
use Rattle.mark_core.specs.declared.types.ScanAt.{ScanAt}
use Rattle.mark_core.specs.Machine.{Phase, Scan, Job, Sizes, Core}
use Rattle.mark_core.specs.Units.{Painted, marked_in, doomed_in, Standing, place_in}

-- the machine's sizes: each lane has one strong pointer, each unit one root bit
abbrev pub sizes : Shape → Sizes
sizes z = record { lanes = z.lanes; markers = z.markers; units = z.units; strong = 1 }

-- so many numbers from this one on
unfoldable pub numbers : ℕ → ℕ → List ℕ
numbers from zero = []
numbers from (suc n) = from ∷ numbers (from + 1) n

-- the cells of a unit
abbrev pub own_cells : Shape → ℕ → List ℕ
own_cells z u = numbers (u * z.cells) z.cells

-- the cells of a unit from this one on
abbrev pub cells_from : Shape → ℕ → ℕ → List ℕ
cells_from z u next = numbers next ((u + 1) * z.cells - next)

abbrev pub scan_of : Shape → Option ScanAt → Option Scan
scan_of z None = None
scan_of z (Some s) = Some (record { unit = s.unit; left = cells_from z s.unit s.next; found = s.found })

-- the root bits, and then the strong pointers
abbrev pub root_of : ℕ → List Bool → List (Option ℕ) → ℕ → Option ℕ
root_of units rooted strong p = if nat_lt p units then (if get_or rooted p false then Some p else None) else get_or strong (p - units) None

-- the lists of a `Core`
pub record Shown : Type 0 where
  pub shape : Shape
  pub phase : Phase
  pub dirty : Bool
  pub lane_open : List Bool
  pub marker_open : List Bool
  pub colours : Painted
  pub targets : List (Option ℕ)
  pub rooted : List Bool
  pub strong : List (Option ℕ)
  pub places : Standing
  pub scanned : List Bool
  pub holds : List (List Bool)
  pub hand : List (Option ℕ)
  pub lane_owes : List Bool
  pub scan : List (Option ScanAt)
  pub marker_owes : List Bool
  pub job : Job
  pub own_hand : Option ℕ
  pub own_found : List Bool

abbrev pub state : Shown → Core
state s = record {
  phase = s.phase;
  parity = s.colours.parity;
  dirty = s.dirty;
  lane_open = λ l. get_or s.lane_open l false;
  marker_open = λ m. get_or s.marker_open m false;
  doomed = doomed_in s.colours;
  marked = marked_in s.colours;
  cells = own_cells s.shape;
  cell = λ n. get_or s.targets n None;
  root = root_of s.shape.units s.rooted s.strong;
  place = place_in s.places;
  scanned = λ u. get_or s.scanned u false;
  holds = λ l u. get_or (get_or s.holds l []) u false;
  hand = λ l. get_or s.hand l None;
  lane_owes = λ l. get_or s.lane_owes l false;
  scan = λ m. scan_of s.shape (get_or s.scan m None);
  marker_owes = λ m. get_or s.marker_owes m false;
  job = s.job;
  own_hand = s.own_hand;
  own_found = λ u. get_or s.own_found u false;
}

-- the sizes of a machine that can be made
pub record IsShape (z : Shape) : Type 0 where
  pub few : z.units * z.cells + z.lanes < 2 ^ 32
  pub lanes_from : 1 ≤ z.lanes
  pub lanes_to : z.lanes ≤ 8
  pub markers_from : 1 ≤ z.markers
  pub markers_to : z.markers ≤ 16

-- a scan is at one of its unit's cells
abbrev pub IsInUnit : Shape → Option ScanAt → Type 0
IsInUnit z scan = IfSome scan (λ s. (s.unit < z.units) × (s.unit * z.cells ≤ s.next) × (s.next < (s.unit + 1) * z.cells))

-- the lists have their lengths, and scans are at cells of their units
pub record HasSizes (s : Shown) : Type 0 where
  pub shape : IsShape s.shape
  pub lane_open_len : length s.lane_open ≡ s.shape.lanes
  pub marker_open_len : length s.marker_open ≡ s.shape.markers
  pub colours_len : length s.colours.colour ≡ s.shape.units
  pub targets_len : length s.targets ≡ s.shape.units * s.shape.cells
  pub rooted_len : length s.rooted ≡ s.shape.units
  pub strong_len : length s.strong ≡ s.shape.lanes
  pub places_len : length s.places.places ≡ s.shape.units
  pub stacks_len : s.places.markers ≡ s.shape.markers
  pub scanned_len : length s.scanned ≡ s.shape.units
  pub holds_len : length s.holds ≡ s.shape.lanes
  pub held_len : (l : ℕ) → l < s.shape.lanes → length (get_or s.holds l []) ≡ s.shape.units
  pub hand_len : length s.hand ≡ s.shape.lanes
  pub lane_owes_len : length s.lane_owes ≡ s.shape.lanes
  pub scan_len : length s.scan ≡ s.shape.markers
  pub scan_in : (m : ℕ) → IsInUnit s.shape (get_or s.scan m None)
  pub marker_owes_len : length s.marker_owes ≡ s.shape.markers
  pub found_len : length s.own_found ≡ s.shape.units
