-- What a step of a marker tells its seat.
use Rattle.std.specs.Prelude.{◌≡◌, ℕ, ◌+◌, ◌*◌, ◌/◌, ◌%◌, ◌==◌, ◌&&◌, ◌<◌, Bool, true, false, if◌then◌else◌, List, [], ◌∷◌, ◌++◌, map, Option, Some, None, is_none, count_ones, length}
use Rattle.std.specs.List.{flat_map}
use Rattle.world_model.specs.Sizes.{Sizes, item_count}
use Rattle.world_model.specs.World.{World, unit_of, in_world, refs_of}
use Rattle.world_model.specs.State.{grey_units}
use Rattle.world_model.specs.Histories.{state_of, after}
use Rattle.world_model.specs.Follows.{entry}
use Rattle.word_layout.specs.Places.{row_words}
use Rattle.mark_core.specs.Changes.{has}
use Rattle.heap_rule.specs.Types.{Name, Ref, Lane, Marker, Collector, MarkStop, Entry, Gate, Head, Scanning, MarkerView, View, MarkerAsk}
use Rattle.heap_rule.specs.Types.act
use Rattle.heap_rule.specs.Types.stop
use Rattle.heap_rule.specs.Types.marker_ask
use Rattle.heap_rule.specs.Units.{first_of, cell_number, numbers_from}
use Rattle.heap_rule.specs.Views.{has_pass, Absent, lane_in, marker_in}
use Rattle.heap_rule.specs.LaneTells.{unclean}
use Rattle.heap_rule.specs.MarkerMay.{IsAlone}
use Rattle.heap_rule.specs.Telling.{Adds, with_marker, without, Gave, AllInArray, SawGate, SawHead, is_marked_head, is_bit, IsTheRef, SeenFor, WordSays}

-- ---- scans

-- the cursor moves on; behind the last cell the scan is over
abbrev pub scan_on : Scanning → List ℕ → Option Scanning
scan_on s [] = None
scan_on s (k ∷ []) = None
scan_on s (k ∷ (j ∷ rest)) = Some (record s { left = j ∷ rest; found = None })

abbrev pub settled : Scanning → Option Scanning
settled s = scan_on s s.left

-- a scan over these cells; over none it is over
abbrev pub scan_from : ℕ → Name → List ℕ → Option Scanning
scan_from u first [] = None
scan_from u first (k ∷ rest) = Some (record { unit = u; first = first; left = k ∷ rest; found = None })

-- a scan that is over is noted
abbrev pub scan_notes : ℕ → Name → Option Scanning → List Entry
scan_notes m of None = entry (Marker m) (act.Scanned of) ∷ []
scan_notes m of (Some s) = []

abbrev pub with_scan : ℕ → Option Scanning → View → View
with_scan m scan v = with_marker m (λ d. record d { scan = scan }) v

-- the first member of a unit, by the index at which a scan or a stack has it
pub record IsUnitOf (z : Sizes) (w : World) (of : Name) (u : ℕ) (first : Ref) : Type 0 where
  pub first_is : first.name ≡ first_of (unit_of w of)
  pub lives : in_world w of ≡ true
  pub index_is : first.index ≡ u
  pub in_array : u < item_count z

-- the members of a unit, and the numbers of their reference cells in order
pub record AreCellsOf (z : Sizes) (w : World) (u : List Name) (members : List Ref) (cells : List ℕ) : Type 0 where
  pub members_are : map (λ r. r.name) members ≡ u
  pub in_array : AllInArray z (map (λ r. r.index) members)
  pub cells_are : cells ≡ flat_map (λ r. numbers_from (cell_number z r.index 0) (refs_of w r.name)) members

-- what a cell names: none, or an object, with the number of its unit
abbrev pub FindsUnit : Sizes → World → Scanning → Option Ref → Option Scanning → List Ref → Type 0
FindsUnit z w s None next more = (next ≡ settled s) × (more ≡ [])
FindsUnit z w s (Some r) next more = (t : ℕ) × (first : Ref) × IsUnitOf z w r.name t first × (next ≡ Some (record s { found = Some t })) × (more ≡ first ∷ r ∷ [])

-- ---- rows

-- whether a marker has neither a stack nor a scan
abbrev pub is_empty : List ℕ → Bool
is_empty [] = true
is_empty (u ∷ us) = false

abbrev pub is_idle : MarkerView → Bool
is_idle d = is_empty d.stack && is_none d.scan

-- ---- the end of a slice

-- nothing of the seat is under way but this slice
pub record OnlySlice (v : View) (m : ℕ) : Type 0 where
  pub slices : IsAlone v m
  pub lanes : (l : ℕ) → has_pass v.passes (Lane l) ≡ true → (lane_in v.lanes l).hand ≡ None
  pub collector : has_pass v.passes Collector ≡ true → v.collector.hand ≡ None

-- of the seat with all passes, nothing is grey where its only slice says that it is idle
abbrev pub IdleIs : Sizes → View → ℕ → View → MarkStop → Type 0
IdleIs z v m w stop.Spent = Unit {0}
IdleIs z v m w stop.Idle = (Absent z v.passes → ⊥) → has_pass v.passes Collector ≡ true → OnlySlice v m → grey_units (state_of w.front) ≡ []

-- ---- all of it

-- what a step of this marker tells
abbrev pub MarkerTells : Sizes → ℕ → MarkerAsk → ℕ → View → List Entry → ℕ → View → Type 0
MarkerTells z m marker_ask.Open word v before found w = (g : Gate) × SawGate before found g × Adds z v before (entry (Marker m) act.SliceOpen ∷ []) (with_marker m (λ d. record d { zeros = [] }) v) w
MarkerTells z m (marker_ask.Close budget reply) word v before found w = IdleIs z v m w reply.stop × Adds z v before (entry (Marker m) (act.Slice budget reply) ∷ []) v w
MarkerTells z m marker_ask.ShadeFound word v before found w = (s : Scanning) × (t : ℕ) × (of : Name) × (first : Ref) × (h : Head) × ((marker_in v.markers m).scan ≡ Some s) × (s.found ≡ Some t)
    × IsUnitOf z (after before) of t first × SawHead found h
    × (is_marked_head before h ≡ false → has (marker_in v.markers m).stack t ≡ false)
    × Adds z v before ((if is_marked_head before h then [] else entry (Marker m) (act.Kept first.name) ∷ []) ++ scan_notes m s.first (settled s))
    (with_marker m (λ d. record d { stack = if is_marked_head before h then d.stack else t ∷ d.stack; scan = settled s }) v) w
MarkerTells z m (marker_ask.ScanCell i slot) word v before found w = (s : Scanning) × (got : Option Ref) × (next : Option Scanning) × (more : List Ref) × ((marker_in v.markers m).scan ≡ Some s)
    × Gave z found got × FindsUnit z (after before) s got next more
    × Adds z v before (scan_notes m s.first next) (with_scan m next (record v { refs = more ++ v.refs })) w
MarkerTells z m (marker_ask.AddRow unit) word v before found w = Adds z v before [] (with_marker m (λ d. record d { stack = without unit d.stack; owes = true; zeros = [] }) v) w
MarkerTells z m (marker_ask.TakeRow row n) word v before found w = (units : List ℕ) × (count_ones found ≡ length units) × ((u : ℕ) → has units u ≡ ((u / 64 == n) && is_bit found (u % 64)))
    × Adds z v before [] (with_marker m (λ d. record d { stack = units; zeros = if found == 0 then d.zeros ++ (row * row_words z + n) ∷ [] else [] }) v) w
MarkerTells z m (marker_ask.LoadRow row n) word v before found w =
    Adds z v before [] (with_marker m (λ d. record d { zeros = if (found == 0) && is_idle d then d.zeros ++ (row * row_words z + n) ∷ [] else d.zeros }) v) w
MarkerTells z m marker_ask.SetDirty word v before found w = Adds z v before [] (unclean (with_marker m (λ d. record d { owes = false }) v)) w
MarkerTells z m marker_ask.LoadGate word v before found w = (g : Gate) × SawGate before found g × Adds z v before [] v w
MarkerTells z m (marker_ask.StartScan unit) word v before found w = (of : Name) × (first : Ref) × (members : List Ref) × (cells : List ℕ) × (h : Head) × SawHead found h
    × IsUnitOf z (after before) of unit first × AreCellsOf z (after before) (unit_of (after before) of) members cells
    × Adds z v before (scan_notes m first.name (scan_from unit first.name cells))
    (with_marker m (λ d. record d { stack = without unit d.stack; scan = scan_from unit first.name cells }) (record v { refs = members ++ v.refs })) w
MarkerTells z m marker_ask.SettleFound word v before found w = (s : Scanning) × (t : ℕ) × (h : Head) × ((marker_in v.markers m).scan ≡ Some s) × (s.found ≡ Some t) × SawHead found h
    × Adds z v before (if is_marked_head before h then scan_notes m s.first (settled s) else []) (if is_marked_head before h then with_scan m (settled s) v else v) w
MarkerTells z m (marker_ask.LoadOf index what) word v before found w = (at : Ref) × (more : List Ref) × IsTheRef z v (in_world (after before)) index at × SeenFor what v before
    × WordSays z (after before) at what found more × Adds z v before [] (record v { refs = more ++ v.refs }) w
