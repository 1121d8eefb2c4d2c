-- When what a seat knows is true.
use Rattle.std.specs.Prelude.{◌≡◌, ◌≢◌, ℕ, ◌/◌, ◌%◌, ◌<◌, ◌≤◌, ◌⊎◌, Bool, true, false, if◌then◌else◌, List, [], ◌++◌, length, Option, Some, None, IfSome, ⊤}
use Rattle.world_model.specs.Sizes.{Sizes, item_count}
use Rattle.world_model.specs.NameLists.{begins_with}
use Rattle.world_model.specs.State.{Slicing}
use Rattle.world_model.specs.MarkerSteps.{HadCompany}
use Rattle.word_layout.specs.Places.{row_words}
use Rattle.mark_core.specs.Changes.{has}
use Rattle.mark_core.specs.Machine.{Scan, same_place}
use Rattle.mark_core.specs.Steps.{is_zero_word}
use Rattle.heap_rule.specs.Types.{Name, Ref, Weak, Kind, Pass, Lane, Marker, Collector, Entry, Part, Place, OnStack, Job, Looking, LaneView, Scanning, MarkerView, CollectorView, Returned, Memo, View}
use Rattle.heap_rule.specs.Types.part
use Rattle.heap_rule.specs.Memory.{Memory}
use Rattle.heap_rule.specs.Items.{Spot, Free, Making, Holds}
use Rattle.heap_rule.specs.Pairs.{low_half}
use Rattle.heap_rule.specs.Removal.{Each}
use Rattle.heap_rule.specs.Counters.{counter_pass}
use Rattle.heap_rule.specs.Views.{has_pass, by_passes, Absent, lane_in, marker_in, scan_of, known_in, is_late}

-- ---- the history

-- the seat has seen a beginning of the history, which has all that its passes did; and no other seat has its passes
pub record SeesHistory (owner : Pass → ℕ) (history : List Entry) (id : ℕ) (v : View) : Type 0 where
  pub rest : List Entry
  pub begins : history ≡ v.front ++ rest
  pub others : by_passes v.passes rest ≡ []
  pub own : (p : Pass) → has_pass v.passes p ≡ true → owner p ≡ id

-- ---- references

-- the objects that a seat knows of were made, and stand where it says, or did as long as they were there
pub record KnowsRef (z : Sizes) (index : Name → ℕ) (kinds : ℕ → List Kind) (r : Ref) : Type 0 where
  pub index_is : index r.name ≡ r.index
  pub in_range : r.index < item_count z
  pub some : 1 ≤ r.name.count
  pub made : r.name.count ≤ length (kinds r.name.lane)

abbrev pub SeesRefs : Sizes → (Name → ℕ) → (ℕ → List Kind) → ℕ → View → Type 0
SeesRefs z index kinds id v = Each (KnowsRef z index kinds) v.refs

-- ---- lanes

pub record LaneSeen (hand : Option ℕ) (owes : Bool) (free making : List ℕ) (prepared loose : Option ℕ) (d : LaneView) : Type 0 where
  pub hand_is : d.hand ≡ hand
  pub owes_is : d.owes ≡ owes
  pub free_is : d.free ≡ free
  pub making_is : d.making ≡ making
  pub prepared_is : d.prepared ≡ prepared
  pub loose_is : d.loose ≡ loose

abbrev pub SeesLanes : (ℕ → Option ℕ) → (ℕ → Bool) → (ℕ → List ℕ) → (ℕ → List ℕ) → (ℕ → Option ℕ) → (ℕ → Option ℕ) → ℕ → View → Type 0
SeesLanes hand owes free making prepared loose id v = (l : ℕ) → has_pass v.passes (Lane l) ≡ true
    → LaneSeen (hand l) (owes l) (free l) (making l) (prepared l) (loose l) (lane_in v.lanes l)

-- ---- markers

-- The row words that it found zero are zero while its slice is open; but where a lane or marker of another seat was open during it, or the collector of another seat was amid its notes, these may have put units there
abbrev pub ZerosHold : Sizes → List Pass → (ℕ → Place) → ℕ → Slicing → List ℕ → Type 0
ZerosHold z passes place m slice zeros = (HadCompany m slice × Absent z passes)
    ⊎ (((slice.amid_begin ≡ true) × (has_pass passes Collector ≡ false))
    ⊎ Each (λ w. is_zero_word place (w / row_words z) (w % row_words z) ≡ true) zeros)

-- the first member of the unit under scan stands at its number
abbrev pub ScanNamed : (Name → ℕ) → (Name → List Name) → Option Scanning → Type 0
ScanNamed index unit scan = IfSome scan (λ s. (index s.first ≡ s.unit) × (begins_with s.first (unit s.first) ≡ true))

pub record MarkerSeen (z : Sizes) (passes : List Pass) (index : Name → ℕ) (unit : Name → List Name) (place : ℕ → Place) (scan : Option Scan) (owes opened : Bool) (m : ℕ) (slice : Slicing) (d : MarkerView) : Type 0 where
  pub stack_is : (u : ℕ) → has d.stack u ≡ same_place (place u) (OnStack m)
  pub scan_is : scan_of d.scan ≡ scan
  pub first_is : ScanNamed index unit d.scan
  pub owes_is : d.owes ≡ owes
  pub zeros_are : opened ≡ true → ZerosHold z passes place m slice d.zeros

abbrev pub SeesMarkers : Sizes → (Name → ℕ) → (Name → List Name) → (ℕ → Place) → (ℕ → Option Scan) → (ℕ → Bool) → (ℕ → Bool) → (ℕ → Slicing) → ℕ → View → Type 0
SeesMarkers z index unit place scan owes opened slices id v = (m : ℕ) → has_pass v.passes (Marker m) ≡ true
    → MarkerSeen z v.passes index unit place (scan m) (owes m) (opened m) m (slices m) (marker_in v.markers m)

-- ---- the collector

-- since it cleared the dirty bit nobody of its seat has set it, so the gate is clean, or a lane or marker of another seat may have set it
abbrev pub CleanHolds : Sizes → List Pass → Bool → Bool → Type 0
CleanHolds z passes dirty clean = clean ≡ true → (dirty ≡ false) ⊎ Absent z passes

-- a return stock that the collector has loaded has its word still, or is empty
abbrev pub ReturnedHolds : (ℕ → ℕ) → Option Returned → Type 0
ReturnedHolds stocks returned = IfSome returned (λ r. (stocks r.lane ≡ r.word) ⊎ (stocks r.lane ≡ 0))

pub record CollectorSeen (z : Sizes) (passes : List Pass) (job : Job) (hand : Option ℕ) (found : ℕ → Bool) (dirty : Bool) (cursor : ℕ) (looking : Looking) (sweeping : List Name) (chain : List Ref) (clearing : Option Name) (stocks : ℕ → ℕ) (d : CollectorView) : Type 0 where
  pub job_is : d.job ≡ job
  pub hand_is : d.hand ≡ hand
  pub found_is : (u : ℕ) → has d.found u ≡ found u
  pub clean_is : CleanHolds z passes dirty d.clean
  pub cursor_is : d.cursor ≡ cursor
  pub looking_is : d.looking ≡ looking
  pub sweeping_is : d.sweeping ≡ sweeping
  pub chain_is : d.chain ≡ chain
  pub clearing_is : d.clearing ≡ clearing
  pub returned_is : ReturnedHolds stocks d.returned

abbrev pub SeesCollector : Sizes → Job → Option ℕ → (ℕ → Bool) → Bool → ℕ → Looking → List Name → List Ref → Option Name → (ℕ → ℕ) → ℕ → View → Type 0
SeesCollector z job hand found dirty cursor looking sweeping chain clearing stocks id v = has_pass v.passes Collector ≡ true
    → CollectorSeen z v.passes job hand found dirty cursor looking sweeping chain clearing stocks v.collector

-- ---- words that one pass alone changes

-- those of an item: of one that a lane has taken, and of one whose object is removed
abbrev pub item_keeper : (Name → Bool) → Spot → Option Pass
item_keeper removed (Making l) = Some (Lane l)
item_keeper removed (Holds n) = if removed n then Some Collector else None
item_keeper removed _ = None

-- the chain of free items is the lane's too
abbrev pub next_keeper : (Name → Bool) → Spot → Option Pass
next_keeper removed (Free l) = Some (Lane l)
next_keeper removed spot = item_keeper removed spot

-- the pass that alone changes a word, if there is one
abbrev pub keeper : (ℕ → Spot) → (Name → Bool) → Part → Option Pass
keeper spot removed (part.Head i) = item_keeper removed (spot i)
keeper spot removed (part.Owner i) = item_keeper removed (spot i)
keeper spot removed (part.Next i) = next_keeper removed (spot i)
keeper spot removed (part.NameOf i) = item_keeper removed (spot i)
keeper spot removed (part.KindOf i) = item_keeper removed (spot i)
keeper spot removed (part.Serial i) = item_keeper removed (spot i)
keeper spot removed (part.Cell i slot) = item_keeper removed (spot i)
keeper spot removed (part.FreeStock l) = Some (Lane l)
keeper spot removed p = counter_pass p

-- what a seat knows is of such words, and true; so nothing is left of a word that is another's now
abbrev pub SeesKnown : Memory → (ℕ → Spot) → (Name → Bool) → ℕ → View → Type 0
SeesKnown memory spot removed id v = (p : Pass) (q : Part) (x : ℕ) → has_pass v.passes p ≡ true → known_in v.known p q ≡ Some x → (keeper spot removed q ≡ Some p) × (memory q ≡ x)

-- the counters of the seat's passes that are behind are those that it says
abbrev pub SeesLate : (Part → Bool) → ℕ → View → Type 0
SeesLate late id v = (p : Part) (q : Pass) → counter_pass p ≡ Some q → has_pass v.passes q ≡ true → late p ≡ is_late v.late p

-- ---- resolving a weak pointer

-- what was loaded of an object's owner is the item of an object, also of the unit, that lives exactly if this one does
abbrev pub OwnerIs : (Name → ℕ) → (Name → Bool) → Name → Option ℕ → Type 0
OwnerIs index living n None = ⊤
OwnerIs index living n (Some o) = (m : Name) × (index m ≡ o) × (living m ≡ living n)

abbrev pub LivesIs : (Name → Bool) → Name → Option Bool → Type 0
LivesIs living n None = ⊤
LivesIs living n (Some b) = living n ≡ b

abbrev pub NameIs : ℕ → Name → Option Ref → Type 0
NameIs i n None = ⊤
NameIs i n (Some r) = r ≡ record { index = i; name = n }

-- the object of a pair stands at its index, and what was loaded of it is so
pub record IsRemembered (spot : ℕ → Spot) (index : Name → ℕ) (living : Name → Bool) (pair_of : Name → Option Weak) (m : Memo) (n : Name) : Type 0 where
  pub pair : pair_of n ≡ Some m.pair
  pub here : spot m.pair.index ≡ Holds n
  pub owner : OwnerIs index living n m.owner
  pub lives : LivesIs living n m.lives
  pub name : NameIs m.pair.index n m.name

-- as long as the index has the pair's serial this is so
abbrev pub MemoHolds : Sizes → (ℕ → ℕ) → (ℕ → Spot) → (Name → ℕ) → (Name → Bool) → (Name → Option Weak) → Memo → Type 0
MemoHolds z serial spot index living pair_of m = m.pair.serial ≢ 0 → m.pair.index < item_count z → low_half (serial m.pair.index) ≡ m.pair.serial
    → (n : Name) × IsRemembered spot index living pair_of m n

-- a memo is one of an open frame
abbrev pub SeesMemos : Sizes → (ℕ → Bool) → (ℕ → ℕ) → (ℕ → Spot) → (Name → ℕ) → (Name → Bool) → (Name → Option Weak) → ℕ → View → Type 0
SeesMemos z lane_open serial spot index living pair_of id v =
    Each (λ m. has_pass v.passes (Lane m.lane) ≡ true → (lane_open m.lane ≡ true) × MemoHolds z serial spot index living pair_of m) v.memos
