-- What a view says: its passes, lanes, markers and words.
use Rattle.std.specs.Prelude.{◌≡◌, ℕ, ◌==◌, ◌&&◌, ◌||◌, ◌⊎◌, Bool, true, false, not, if◌then◌else◌, List, [], ◌∷◌, Option, Some, None}
use Rattle.std.specs.List.{list_any, filter}
use mathlib.Core.Option.{some}
use lib.ListN.{get_elem?}
use Rattle.world_model.specs.Sizes.{Sizes}
use Rattle.world_model.specs.NameLists.{same_pass}
use Rattle.world_model.specs.World.{is_open}
use Rattle.world_model.specs.Histories.{after}
use Rattle.world_model.specs.Follows.{IsActor}
use Rattle.mark_core.specs.Changes.{has}
use Rattle.mark_core.specs.Machine.{Scan}
use Rattle.heap_rule.specs.Types.{Pass, Marker, Entry, Part, NoJob, LaneView, Scanning, MarkerView, CollectorView, Fresh, Known, Memo, View}
use Rattle.heap_rule.specs.Types.part
use Rattle.heap_rule.specs.Memory.{same_part}

-- ---- passes and the history

abbrev pub has_pass : List Pass → Pass → Bool
has_pass passes p = list_any (same_pass p) passes

-- what the history has of these passes
abbrev pub by_passes : List Pass → List Entry → List Entry
by_passes passes entries = filter (λ e. has_pass passes e.pass) entries

-- the entries of the seat's own passes
abbrev pub mine : View → List Entry
mine v = by_passes v.passes v.front

-- some lane or marker is another seat's
abbrev pub Absent : Sizes → List Pass → Type 0
Absent z passes = (p : Pass) × IsActor z p × (has_pass passes p ≡ false)

-- no marker of the seat has its slice open
abbrev pub NoSlice : View → Type 0
NoSlice v = (m : ℕ) → has_pass v.passes (Marker m) ≡ true → is_open (after v.front) (Marker m) ≡ false

-- ---- lanes, markers, the collector

-- nothing under way
abbrev pub resting_lane : ℕ → LaneView
resting_lane lane = record { lane = lane; hand = None; owes = false; free = []; making = []; prepared = None; loose = None }

abbrev pub lane_in : List LaneView → ℕ → LaneView
lane_in [] lane = resting_lane lane
lane_in (d ∷ ds) lane = if lane == d.lane then d else lane_in ds lane

abbrev pub resting_marker : ℕ → MarkerView
resting_marker marker = record { marker = marker; stack = []; scan = None; owes = false; zeros = [] }

abbrev pub marker_in : List MarkerView → ℕ → MarkerView
marker_in [] marker = resting_marker marker
marker_in (d ∷ ds) marker = if marker == d.marker then d else marker_in ds marker

abbrev pub resting_collector : CollectorView
resting_collector = record { job = NoJob; hand = None; found = []; clean = false; cursor = 0; looking = Fresh; sweeping = []; chain = []; clearing = None; returned = None }

-- the scan of a marker, for the machine
abbrev pub scan_of : Option Scanning → Option Scan
scan_of None = None
scan_of (Some s) = Some (record { unit = s.unit; left = s.left; found = s.found })

-- ---- words that the seat knows

abbrev pub known_in : List Known → Pass → Part → Option ℕ
known_in [] p q = None
known_in (k ∷ ks) p q = if same_pass p k.pass && same_part q k.part then Some k.value else known_in ks p q

-- whether a part is a word of one of these items
abbrev pub is_about : List ℕ → Part → Bool
is_about is (part.Head i) = has is i
is_about is (part.Owner i) = has is i
is_about is (part.Next i) = has is i
is_about is (part.NameOf i) = has is i
is_about is (part.KindOf i) = has is i
is_about is (part.Serial i) = has is i
is_about is (part.Cell i slot) = has is i
is_about is p = false

-- what is known of other parts
abbrev pub known_but : List ℕ → List Known → List Known
known_but is known = filter (λ k. not (is_about is k.part)) known

-- what is known of these items' links, and of other parts
abbrev pub is_link : Part → Bool
is_link (part.Next i) = true
is_link p = false

abbrev pub known_links : List ℕ → List Known → List Known
known_links is known = filter (λ k. is_link k.part || not (is_about is k.part)) known

-- the counter is behind the history
abbrev pub is_late : List Part → Part → Bool
is_late late p = list_any (same_part p) late

abbrev pub memos_but : ℕ → List Memo → List Memo
memos_but l memos = filter (λ m. not (m.lane == l)) memos

-- ---- lists of what is known, and of seats

-- it stands among these
abbrev pub Among : {A : Type 0} → A → List A → Type 0
Among a [] = ⊥
Among a (x ∷ xs) = (x ≡ a) ⊎ Among a xs

-- each seat's view fits
abbrev pub EachSeat : (ℕ → View → Type 0) → List View → Type 0
EachSeat Fits views = (id : ℕ) (v : View) → get_elem? views id ≡ some v → Fits id v
