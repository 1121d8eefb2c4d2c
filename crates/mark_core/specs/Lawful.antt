-- The tri-colour law: what holds of the machine after every list of allowed events.
--
-- Each clause is a type over the parts of the state that it reads. A clause, or a part of one, that is there only so
-- that the others can be kept begins with 'Kept besides', and says why.
use Rattle.std.specs.Prelude.{◌≡◌, ℕ, ◌/◌, ◌<◌, ◌≤◌, ⊤, Bool, true, false, ◌⊎◌, List, ◌∷◌, Option, Some, None}
use Rattle.mark_core.specs.Changes.{has}
use Rattle.mark_core.specs.Machine.{Phase, Idle, Marking, Place, Nowhere, InRow, OnStack, UnderScan, InHand, InCollector, Scan, Job, NoJob, Roots, Look, Sizes, root_places, Core}
use Rattle.mark_core.specs.Steps.{is_live}

-- a lane that is not open has nothing in hand and owes nothing
pub record LanesRest (opened : ℕ → Bool) (hand : ℕ → Option ℕ) (owes : ℕ → Bool) : Type 0 where
  pub hand_is : (l : ℕ) → opened l ≡ false → hand l ≡ None
  pub owes_is : (l : ℕ) → opened l ≡ false → owes l ≡ false

-- a marker that is not open scans nothing and owes nothing
pub record MarkersRest (opened : ℕ → Bool) (scan : ℕ → Option Scan) (owes : ℕ → Bool) : Type 0 where
  pub scan_is : (m : ℕ) → opened m ≡ false → scan m ≡ None
  pub owes_is : (m : ℕ) → opened m ≡ false → owes m ≡ false

-- Kept besides: nor does it hold anything. A white unit held by a closed lane would be held and doomed after a commit
abbrev pub HeldInFrames : (ℕ → Bool) → (ℕ → ℕ → Bool) → Type 0
HeldInFrames opened holds = (l u : ℕ) → opened l ≡ false → holds l u ≡ false

-- nor has it a stack
abbrev pub StacksInFrames : (ℕ → Bool) → (ℕ → Place) → Type 0
StacksInFrames opened place = (m u : ℕ) → opened m ≡ false → place u ≡ OnStack m → ⊥

-- Each grey unit stands in one place, as the type says: a bit of a row, the stack of a marker, a scan or a hand.
-- Kept besides: the row is one of the machine, since the collector looks at no other; and hand, scan and place agree,
-- so that a unit that leaves a hand or a scan stands nowhere else
pub record Standing (z : Sizes) (place : ℕ → Place) (hand : ℕ → Option ℕ) (own_hand : Option ℕ) (scan : ℕ → Option Scan) : Type 0 where
  pub rows : (u r : ℕ) → place u ≡ InRow r → r ≤ z.markers
  pub hands : (u l : ℕ) → place u ≡ InHand l → hand l ≡ Some u
  pub own : (u : ℕ) → place u ≡ InCollector → own_hand ≡ Some u
  pub in_hand : (l u : ℕ) → hand l ≡ Some u → place u ≡ InHand l
  pub in_own : (u : ℕ) → own_hand ≡ Some u → place u ≡ InCollector
  pub scans : (u m : ℕ) → place u ≡ UnderScan m → (s : Scan) × (scan m ≡ Some s) × (s.unit ≡ u)
  pub under : (m : ℕ) (s : Scan) → scan m ≡ Some s → place s.unit ≡ UnderScan m

-- Kept besides: what a scan has still to settle are cells of its unit; so its marker may load the one at its cursor
abbrev pub ScansOwn : (ℕ → List ℕ) → (ℕ → Option Scan) → Type 0
ScansOwn cells scan = (m : ℕ) (s : Scan) (k : ℕ) → scan m ≡ Some s → has s.left k ≡ true → has (cells s.unit) k ≡ true

-- A grey unit is a marked one that is not doomed and was not scanned since the marking began.
-- Kept besides: a scanned unit is marked; else it could be shaded and scanned once more
pub record AreGrey (doomed marked scanned : ℕ → Bool) (place : ℕ → Place) : Type 0 where
  pub marked_is : (u : ℕ) → marked u ≡ false → place u ≡ Nowhere
  pub doomed_is : (u : ℕ) → doomed u ≡ true → place u ≡ Nowhere
  pub scanned_is : (u : ℕ) → scanned u ≡ true → (place u ≡ Nowhere) × (marked u ≡ true)

-- The tri-colour law itself: cells of black units name only marked ones, and so do the cells of a unit under scan that
-- the cursor has passed.
-- Kept besides: while a scan has a found, the cell at its cursor names that or a marked unit; a lane may have stored
-- into the cell since it was loaded, and the cursor will pass it when the found is settled
pub record AreBlack (doomed marked : ℕ → Bool) (place : ℕ → Place) (cells : ℕ → List ℕ) (cell : ℕ → Option ℕ) (scan : ℕ → Option Scan) : Type 0 where
  pub black : (u k v : ℕ) → doomed u ≡ false → marked u ≡ true → place u ≡ Nowhere → has (cells u) k ≡ true → cell k ≡ Some v → marked v ≡ true
  pub passed : (m : ℕ) (s : Scan) (k v : ℕ) → scan m ≡ Some s → has (cells s.unit) k ≡ true → has s.left k ≡ false → cell k ≡ Some v → marked v ≡ true
  pub at_cursor : (m : ℕ) (s : Scan) (k : ℕ) (rest : List ℕ) (t v : ℕ) → scan m ≡ Some s → s.left ≡ k ∷ rest → s.found ≡ Some t → cell k ≡ Some v → (marked v ≡ true) ⊎ (v ≡ t)

-- a place of the root set that the collector has still to load
abbrev pub Unloaded : Job → ℕ → Type 0
Unloaded (Roots from) p = from ≤ p
Unloaded _ p = ⊥

-- what the root set names is marked, or still to be loaded, or found
abbrev pub RootsFollowed : (ℕ → Bool) → (ℕ → Option ℕ) → Job → (ℕ → Bool) → Type 0
RootsFollowed marked root job found = (p v : ℕ) → root p ≡ Some v → (marked v ≡ true) ⊎ (Unloaded job p ⊎ (found v ≡ true))

-- outside of a marking nothing is grey, the gate is clean, and nobody owes
pub record AllQuiet (place : ℕ → Place) (dirty : Bool) (lane_owes marker_owes : ℕ → Bool) : Type 0 where
  pub places : (u : ℕ) → place u ≡ Nowhere
  pub clean : dirty ≡ false
  pub lanes : (l : ℕ) → lane_owes l ≡ false
  pub markers : (m : ℕ) → marker_owes m ≡ false

abbrev pub FoundNone : (ℕ → Bool) → Type 0
FoundNone found = (u : ℕ) → found u ≡ false

-- the collector works in a marking alone, and has units in hand and found only while it goes over the roots
abbrev pub AtWork : Phase → Job → Option ℕ → (ℕ → Bool) → Type 0
AtWork phase NoJob hand found = (hand ≡ None) × FoundNone found
AtWork phase (Roots p) hand found = phase ≡ Marking
AtWork phase (Look row word) hand found = (phase ≡ Marking) × (hand ≡ None) × FoundNone found

-- the word comes before that one in the order of rows and words
abbrev pub IsBefore : ℕ → ℕ → ℕ → ℕ → Type 0
IsBefore r w row word = (r < row) ⊎ ((r ≡ row) × (w < word))

-- while the gate is clean and nobody owes, the row words that the collector has looked at are zero
abbrev pub LookedAt : Job → Bool → (ℕ → Bool) → (ℕ → Bool) → (ℕ → Place) → Type 0
LookedAt (Look row word) dirty lane_owes marker_owes place =
    dirty ≡ false → ((l : ℕ) → lane_owes l ≡ false) → ((m : ℕ) → marker_owes m ≡ false) → (u r : ℕ) → place u ≡ InRow r → IsBefore r (u / 64) row word → ⊥
LookedAt _ dirty lane_owes marker_owes place = ⊤

-- what units of the world refer to is in the world
abbrev pub CellsLive : Phase → (ℕ → Bool) → (ℕ → Bool) → (ℕ → List ℕ) → (ℕ → Option ℕ) → Type 0
CellsLive phase doomed marked cells cell = (u k v : ℕ) → is_live phase doomed marked u ≡ true → has (cells u) k ≡ true → cell k ≡ Some v → is_live phase doomed marked v ≡ true

-- So is what the root set names.
-- Kept besides: what names a unit is a place of the root set; so all is loaded when all places are
abbrev pub RootsLive : Sizes → Phase → (ℕ → Bool) → (ℕ → Bool) → (ℕ → Option ℕ) → Type 0
RootsLive z phase doomed marked root = (p v : ℕ) → root p ≡ Some v → (p < root_places z) × (is_live phase doomed marked v ≡ true)

-- so are held units
abbrev pub HeldLive : Phase → (ℕ → Bool) → (ℕ → Bool) → (ℕ → ℕ → Bool) → Type 0
HeldLive phase doomed marked holds = (l u : ℕ) → holds l u ≡ true → is_live phase doomed marked u ≡ true

-- and what markers and the collector have found
pub record FoundLive (phase : Phase) (doomed marked : ℕ → Bool) (scan : ℕ → Option Scan) (own_found : ℕ → Bool) : Type 0 where
  pub markers : (m : ℕ) (s : Scan) (t : ℕ) → scan m ≡ Some s → s.found ≡ Some t → is_live phase doomed marked t ≡ true
  pub own : (u : ℕ) → own_found u ≡ true → is_live phase doomed marked u ≡ true

-- Kept besides: only lanes and markers of the machine have frames; so none has one where none is counted
pub record OpenInRange (z : Sizes) (lane_open marker_open : ℕ → Bool) : Type 0 where
  pub lanes : (l : ℕ) → z.lanes ≤ l → lane_open l ≡ false
  pub markers : (m : ℕ) → z.markers ≤ m → marker_open m ≡ false

pub record Lawful (z : Sizes) (c : Core) : Type 0 where
  -- kept besides: no number beyond the units is one of a unit; so what is not doomed is in range
  pub beyond : (u : ℕ) → z.units ≤ u → c.doomed u ≡ true
  pub open_in : OpenInRange z c.lane_open c.marker_open
  pub lanes : LanesRest c.lane_open c.hand c.lane_owes
  pub markers : MarkersRest c.marker_open c.scan c.marker_owes
  pub held_in : HeldInFrames c.lane_open c.holds
  pub stacks_in : StacksInFrames c.marker_open c.place
  pub standing : Standing z c.place c.hand c.own_hand c.scan
  pub scans_own : ScansOwn c.cells c.scan
  pub grey : AreGrey c.doomed c.marked c.scanned c.place
  pub black : c.phase ≡ Marking → AreBlack c.doomed c.marked c.place c.cells c.cell c.scan
  pub roots : c.phase ≡ Marking → RootsFollowed c.marked c.root c.job c.own_found
  pub quiet : (c.phase ≡ Marking → ⊥) → AllQuiet c.place c.dirty c.lane_owes c.marker_owes
  pub work : AtWork c.phase c.job c.own_hand c.own_found
  pub looked : LookedAt c.job c.dirty c.lane_owes c.marker_owes c.place
  pub cells : CellsLive c.phase c.doomed c.marked c.cells c.cell
  pub root_set : RootsLive z c.phase c.doomed c.marked c.root
  pub held : HeldLive c.phase c.doomed c.marked c.holds
  pub found : FoundLive c.phase c.doomed c.marked c.scan c.own_found
  -- in phase Idle each unit that is not marked is doomed
  pub idle : c.phase ≡ Idle → (u : ℕ) → c.marked u ≡ false → c.doomed u ≡ true
