-- The atomic steps of marking: when an actor may do one, and what it does.
--
-- A step is an event of which cells and root bits are known by what they are of. So it serves machines whose units have
-- cells and root bits of their own numbers, and not only `Core`, which gives each unit as many.
use Rattle.std.specs.Prelude.{◌≡◌, ℕ, ◌+◌, ◌*◌, ◌/◌, ◌<◌, ◌≤◌, ◌==◌, ⊤, zero, suc, nat_le, nat_lt, Bool, true, false, not, ◌&&◌, if◌then◌else◌, List, [], ◌∷◌, Option, Some, None, is_none, IfSome}
use Rattle.mark_core.specs.Changes.{set_at, set_in, has}
use Rattle.mark_core.specs.Machine.{Phase, Idle, Marking, Gathering, Actor, Lane, Marker, Collector, Cell, CellOf, StrongOf, Place, Nowhere, InRow, OnStack, UnderScan, InHand, InCollector, Scan, Job, NoJob, Roots, Look, Sizes, strong_place, root_places, words, Core, same_place, row_bit, frames}

pub data Step : Type 0 where
  FrameOpen : Step
  FrameClose : Step
  BeginExchange : Step
  Shade : (unit : ℕ) → Step
  SwapCell : (cell : Cell) (to : Option ℕ) → Step
  LoadCell : (cell : Cell) → Step
  AddRow : (row unit : ℕ) → Step
  TakeRow : (row word : ℕ) → Step
  SetDirty : Step
  ClearDirty : Step
  LoadRow : (row word : ℕ) → Step
  CommitExchange : Step
  LoadHead : (unit : ℕ) → Step
  DoomHead : (unit : ℕ) → Step
  Settle : Step
  -- a root bit, by its number and the unit that it is of: set, cleared or loaded
  RootBit : (bit unit : ℕ) (on : Option Bool) → Step

-- whether a unit is in the world
abbrev pub is_live : Phase → (ℕ → Bool) → (ℕ → Bool) → ℕ → Bool
is_live Marking doomed marked u = not (doomed u)
is_live _ doomed marked u = not (doomed u) && marked u

-- an open lane with nothing in hand, which owes nothing
pub record IsFree (c : Core) (lane : ℕ) : Type 0 where
  pub opened : c.lane_open lane ≡ true
  pub hand : c.hand lane ≡ None
  pub owes : c.lane_owes lane ≡ false

-- the lane may put this into a cell
abbrev pub MayStore : Core → ℕ → Option ℕ → Type 0
MayStore c lane to = IfSome to (λ u. (c.holds lane u ≡ true) × (c.phase ≡ Marking → c.marked u ≡ true))

-- the lane may load and swap this cell
abbrev pub MayUse : Sizes → Core → ℕ → Cell → Type 0
MayUse z c lane (CellOf u n) = (c.holds lane u ≡ true) × (has (c.cells u) n ≡ true)
MayUse z c lane (StrongOf of number) = (of ≡ lane) × (number < z.strong)

-- whether none of the first n passes the test
unfoldable pub none_set : (ℕ → Bool) → ℕ → Bool
none_set f zero = true
none_set f (suc n) = if f n then false else none_set f n

-- whether a marker has nothing on its stack
abbrev pub no_stack : Sizes → (ℕ → Place) → ℕ → Bool
no_stack z place m = none_set (λ u. same_place (place u) (OnStack m)) z.units

-- whether all units that are not marked are doomed
abbrev pub no_white : Sizes → (ℕ → Bool) → (ℕ → Bool) → Bool
no_white z doomed marked = none_set (λ u. not (doomed u) && not (marked u)) z.units

-- what a scan has found
abbrev pub found_of : Option Scan → Option ℕ
found_of None = None
found_of (Some s) = s.found

-- the collector has looked at all words of all rows
abbrev pub looked_all : Sizes → Job
looked_all z = Look (z.markers + 1) 0

-- before the first word of the first row; where rows have no words all are looked at
abbrev pub first_look : Sizes → Job
first_look z = if nat_lt 0 (words z) then Look 0 0 else looked_all z

-- whether the collector goes over the root set
abbrev pub is_roots : Job → Bool
is_roots (Roots p) = true
is_roots _ = false

-- a lane may do this
abbrev pub LaneMay : Sizes → Core → ℕ → Step → Type 0
LaneMay z c lane FrameOpen = c.lane_open lane ≡ false
LaneMay z c lane FrameClose = IsFree c lane
LaneMay z c lane (Shade u) = IsFree c lane × (c.phase ≡ Marking) × (c.holds lane u ≡ true)
LaneMay z c lane (SwapCell cell to) = IsFree c lane × MayUse z c lane cell × MayStore c lane to
LaneMay z c lane (LoadCell cell) = IsFree c lane × MayUse z c lane cell
LaneMay z c lane (AddRow row u) = (c.place u ≡ InHand lane) × (row ≡ z.markers)
LaneMay z c lane SetDirty = c.lane_owes lane ≡ true
LaneMay z c lane (LoadRow row word) = (row ≤ z.markers) × (word < words z)
LaneMay z c lane (LoadHead u) = u < z.units
LaneMay z c lane (RootBit bit u (Some true)) = IsFree c lane × (bit < z.units) × (c.holds lane u ≡ true) × (c.phase ≡ Marking → c.marked u ≡ true)
LaneMay z c lane (RootBit bit u (Some false)) = IsFree c lane × (bit < z.units) × (c.holds lane u ≡ true)
LaneMay z c lane _ = ⊥

-- a marker may do this
abbrev pub MarkerMay : Sizes → Core → ℕ → Step → Type 0
MarkerMay z c m FrameOpen = c.marker_open m ≡ false
MarkerMay z c m FrameClose = (c.marker_open m ≡ true) × (c.scan m ≡ None) × (c.marker_owes m ≡ false) × (no_stack z c.place m ≡ true)
MarkerMay z c m (Shade u) = (c.phase ≡ Marking) × (found_of (c.scan m) ≡ Some u)
MarkerMay z c m (LoadCell (CellOf u n)) = (rest : List ℕ) × (c.scan m ≡ Some (record { unit = u; left = n ∷ rest; found = None })) × (has (c.cells u) n ≡ true)
MarkerMay z c m (AddRow row u) = (c.place u ≡ OnStack m) × (row ≡ m)
MarkerMay z c m (TakeRow row word) = (c.marker_open m ≡ true) × (c.scan m ≡ None) × (no_stack z c.place m ≡ true) × (row ≤ z.markers) × (word < words z)
MarkerMay z c m SetDirty = c.marker_owes m ≡ true
MarkerMay z c m (LoadRow row word) = (row ≤ z.markers) × (word < words z)
MarkerMay z c m (LoadHead u) = u < z.units
MarkerMay z c m _ = ⊥

-- the collector may do this
abbrev pub CollectorMay : Sizes → Core → Step → Type 0
CollectorMay z c BeginExchange = (c.job ≡ NoJob) × (c.phase ≡ Idle)
CollectorMay z c (Shade u) = (is_roots c.job ≡ true) × (c.own_found u ≡ true) × (c.own_hand ≡ None) × (c.phase ≡ Marking)
CollectorMay z c (LoadCell (StrongOf lane number)) = (c.job ≡ Roots (strong_place z lane number)) × (lane < z.lanes) × (number < z.strong)
CollectorMay z c (AddRow row u) = (c.place u ≡ InCollector) × (row ≡ z.markers)
CollectorMay z c ClearDirty = (c.job ≡ NoJob) × (c.phase ≡ Marking)
CollectorMay z c (LoadRow row word) = (row ≤ z.markers) × (word < words z)
CollectorMay z c CommitExchange = c.job ≡ looked_all z
CollectorMay z c (LoadHead u) = u < z.units
CollectorMay z c (DoomHead u) = (c.phase ≡ Gathering) × (c.marked u ≡ false) × (c.doomed u ≡ false)
CollectorMay z c Settle = (c.phase ≡ Gathering) × (no_white z c.doomed c.marked ≡ true)
CollectorMay z c (RootBit bit u None) = (c.job ≡ Roots bit) × (bit < z.units)
CollectorMay z c _ = ⊥

-- this actor may do this event now
abbrev pub Allowed : Sizes → Core → Actor → Step → Type 0
Allowed z c (Lane lane) e = (lane < z.lanes) × LaneMay z c lane e
Allowed z c (Marker m) e = (m < z.markers) × MarkerMay z c m e
Allowed z c Collector e = CollectorMay z c e

-- The small changes of which the events are made.

abbrev pub gain : (ℕ → ℕ → Bool) → ℕ → Option ℕ → ℕ → ℕ → Bool
gain holds lane None = holds
gain holds lane (Some u) = set_in holds lane u true

-- the lane holds what was given
abbrev pub gains : Core → ℕ → Option ℕ → Core
gains c lane got = record c { holds = gain c.holds lane got }

-- the unit is marked. If that changed its colour, it stands there now
abbrev pub marks : Core → ℕ → Place → Core
marks c u p = record c { marked = set_at c.marked u true; place = if c.marked u then c.place else set_at c.place u p }

-- the cells behind the first
abbrev pub behind : List ℕ → List ℕ
behind [] = []
behind (n ∷ rest) = rest

-- a scan at its end leaves its unit scanned
abbrev pub leaves : Core → ℕ → Core
leaves c u = record c { place = set_at c.place u Nowhere; scanned = set_at c.scanned u true }

-- The scan is over the cells that are left now; with none it ends
abbrev pub goes_on : Core → ℕ → Scan → List ℕ → Core
goes_on c m s [] = record (leaves c s.unit) { scan = set_at c.scan m None }
goes_on c m s (n ∷ rest) = record c { scan = set_at c.scan m (Some (record { unit = s.unit; left = n ∷ rest; found = None })) }

-- the marker's cursor moves on
abbrev pub moves_on : Core → ℕ → Option Scan → Core
moves_on c m None = c
moves_on c m (Some s) = goes_on c m s (behind s.left)

-- the marker finds this at its cursor
abbrev pub finds : Core → ℕ → Option Scan → Option ℕ → Core
finds c m o None = moves_on c m o
finds c m None (Some t) = c
finds c m (Some s) (Some t) = record c { scan = set_at c.scan m (Some (record s { found = Some t })) }

-- the marker starts the scan of a unit of its stack
abbrev pub starts : Core → ℕ → ℕ → List ℕ → Core
starts c m u [] = leaves c u
starts c m u (n ∷ rest) = record c { place = set_at c.place u (UnderScan m); scan = set_at c.scan m (Some (record { unit = u; left = n ∷ rest; found = None })) }

abbrev pub is_found : Option ℕ → ℕ → Bool
is_found None u = false
is_found (Some t) u = t == u

-- a head that a marker loads
abbrev pub marker_loads : Core → ℕ → ℕ → Option Scan → Core
marker_loads c m u None = if same_place (c.place u) (OnStack m) then starts c m u (c.cells u) else c
marker_loads c m u (Some s) = if is_found s.found u && c.marked u then goes_on c m s (behind s.left) else c

-- Of the machine d only what a scan changes, and all else of c: so the other fields stay as they are by computation,
-- whatever the marker found
abbrev pub only_scans : Core → Core → Core
only_scans c d = record c { place = d.place; scanned = d.scanned; scan = d.scan }

-- where a unit of the row's word stands when a marker takes the word
abbrev pub takes : ℕ → ℕ → ℕ → (ℕ → Place) → ℕ → Place
takes m row word place u = if same_place (place u) (InRow row) && (u / 64 == word) then OnStack m else place u

-- what the collector loaded from a place of the root set
abbrev pub finds_root : (ℕ → Bool) → Option ℕ → ℕ → Bool
finds_root found None = found
finds_root found (Some u) = set_at found u true

-- Roots ends when all places are loaded, and hand and found are empty
abbrev pub rests_by : Bool → Core → Core
rests_by b c = record c { job = if b then NoJob else c.job }

abbrev pub roots_done : Sizes → Job → Option ℕ → (ℕ → Bool) → Bool
roots_done z (Roots p) hand found = nat_le (root_places z) p && (is_none hand && none_set found z.units)
roots_done z _ hand found = false

abbrev pub rests : Sizes → Core → Core
rests z c = rests_by (roots_done z c.job c.own_hand c.own_found) c

-- whether a word of a row is zero
abbrev pub is_zero_word : (ℕ → Place) → ℕ → ℕ → Bool
is_zero_word place row word = none_set (λ i. row_bit place row (64 * word + i)) 64

-- what comes behind this word of the rows
abbrev pub next_word : Sizes → ℕ → ℕ → Job
next_word z row word = if nat_lt (word + 1) (words z) then Look row (word + 1) else Look (row + 1) 0

abbrev pub looks : Sizes → (ℕ → Place) → Job → ℕ → ℕ → Job
looks z place (Look r w) row word = if (r == row) && (w == word) then (if is_zero_word place row word then next_word z row word else NoJob) else Look r w
looks z place job row word = job

-- What an event does.

abbrev pub after_lane : Sizes → Core → ℕ → Step → Core
after_lane z c lane FrameOpen = record c { lane_open = set_at c.lane_open lane true }
after_lane z c lane FrameClose = record c { lane_open = set_at c.lane_open lane false; holds = set_at c.holds lane (λ u. false) }
after_lane z c lane (Shade u) = record (marks c u (InHand lane)) { hand = if c.marked u then c.hand else set_at c.hand lane (Some u) }
after_lane z c lane (SwapCell (CellOf u slot) to) = gains (record c { cell = set_at c.cell slot to }) lane (c.cell slot)
after_lane z c lane (SwapCell (StrongOf of number) to) = gains (record c { root = set_at c.root (strong_place z of number) to }) lane (c.root (strong_place z of number))
after_lane z c lane (LoadCell (CellOf u slot)) = gains c lane (c.cell slot)
after_lane z c lane (LoadCell (StrongOf of number)) = gains c lane (c.root (strong_place z of number))
after_lane z c lane (AddRow row u) = record c { place = set_at c.place u (InRow row); hand = set_at c.hand lane None; lane_owes = set_at c.lane_owes lane true }
after_lane z c lane SetDirty = record c { dirty = true; lane_owes = set_at c.lane_owes lane false }
after_lane z c lane (LoadHead u) = gains c lane (if c.lane_open lane && is_live c.phase c.doomed c.marked u then Some u else None)
after_lane z c lane (RootBit bit u (Some on)) = record c { root = set_at c.root bit (if on then Some u else None) }
after_lane z c lane _ = c

abbrev pub after_marker : Sizes → Core → ℕ → Step → Core
after_marker z c m FrameOpen = record c { marker_open = set_at c.marker_open m true }
after_marker z c m FrameClose = record c { marker_open = set_at c.marker_open m false }
after_marker z c m (Shade u) = only_scans (marks c u (OnStack m)) (moves_on (marks c u (OnStack m)) m (c.scan m))
after_marker z c m (LoadCell (CellOf u slot)) = only_scans c (finds c m (c.scan m) (c.cell slot))
after_marker z c m (AddRow row u) = record c { place = set_at c.place u (InRow row); marker_owes = set_at c.marker_owes m true }
after_marker z c m (TakeRow row word) = record c { place = takes m row word c.place }
after_marker z c m SetDirty = record c { dirty = true; marker_owes = set_at c.marker_owes m false }
after_marker z c m (LoadHead u) = only_scans c (marker_loads c m u (c.scan m))
after_marker z c m _ = c

abbrev pub begins_by : Bool → Core → Core
begins_by true c = record c { phase = Marking; parity = not c.parity; marked = λ u. not (c.marked u); scanned = λ u. false; job = Roots 0 }
begins_by false c = c

abbrev pub commits_by : Bool → Core → Core
commits_by true c = record c { phase = Gathering; job = NoJob }
commits_by false c = record c { job = NoJob }

abbrev pub after_collector : Sizes → Core → Step → Core
after_collector z c BeginExchange = begins_by (frames z c == 0) c
after_collector z c (Shade u) = rests z (record (marks c u InCollector) { own_hand = if c.marked u then c.own_hand else Some u; own_found = set_at c.own_found u false })
after_collector z c (LoadCell (StrongOf lane number)) = rests z (record c { job = Roots (strong_place z lane number + 1); own_found = finds_root c.own_found (c.root (strong_place z lane number)) })
after_collector z c (AddRow row u) = rests z (record c { place = set_at c.place u (InRow row); own_hand = None })
after_collector z c ClearDirty = record c { dirty = false; job = first_look z }
after_collector z c (LoadRow row word) = record c { job = looks z c.place c.job row word }
after_collector z c CommitExchange = commits_by ((frames z c == 0) && not c.dirty) c
after_collector z c (DoomHead u) = record c { doomed = set_at c.doomed u true }
after_collector z c Settle = record c { phase = Idle }
after_collector z c (RootBit bit u None) = rests z (record c { job = Roots (bit + 1); own_found = finds_root c.own_found (c.root bit) })
after_collector z c _ = c

abbrev pub after_step : Sizes → Core → Actor → Step → Core
after_step z c (Lane lane) e = after_lane z c lane e
after_step z c (Marker m) e = after_marker z c m e
after_step z c Collector e = after_collector z c e

-- a list of events, each by its actor
abbrev pub AllAllowed : Sizes → Core → List (Actor × Step) → Type 0
AllAllowed z c [] = ⊤
AllAllowed z c (e ∷ es) = Allowed z c e.0 e.1 × AllAllowed z (after_step z c e.0 e.1) es

abbrev pub run : Sizes → Core → List (Actor × Step) → Core
run z c [] = c
run z c (e ∷ es) = run z (after_step z c e.0 e.1) es
