-- Colours and marks: gate, heads, rows and root words against the machine of marking, and the machine against the world.
use Rattle.std.specs.Prelude.{◌≡◌, ℕ, ◌+◌, ◌<◌, ◌≤◌, ◌⊎◌, Bool, true, false, not, if◌then◌else◌, List, length, Option, Some, None}
use Rattle.std.specs.List.{list_any}
use Rattle.world_model.specs.Sizes.{Sizes, item_count}
use Rattle.world_model.specs.NameLists.{same_pass, has, begins_with}
use Rattle.word_layout.specs.Values.{gate_word, head_word}
use Rattle.word_layout.specs.Places.{row_words}
use Rattle.mark_core.specs.Machine.{Core, count_below, strong_place, same_place}
use Rattle.mark_core.specs.Words.{row_word, root_word}
use Rattle.heap_rule.specs.Types.{Name, Phase, Pass, Lane, Marker, Head, Place, Nowhere}
use Rattle.heap_rule.specs.Types.life
use Rattle.heap_rule.specs.Units.{sizes_of, number, cell_number, cells_of, unit_named}

-- ---- words and machine

-- the gate
abbrev pub GateShown : ℕ → Phase → Bool → Bool → ℕ → Type 0
GateShown word phase parity dirty frames = word ≡ gate_word (record { phase = phase; parity = parity; dirty = dirty; frames = frames })

-- the colour of a unit is the parity exactly where it is marked
abbrev pub colour_of : Bool → Bool → Bool
colour_of parity true = parity
colour_of parity false = not parity

abbrev pub live_head : Bool → Bool → Head
live_head parity marked = record { life = life.Live; colour = colour_of parity marked; polls = 0 }

-- the heads of the objects that live: that of a unit in its first member, and all others zero, but for one that a lane has prepared, which is that of a marked unit
pub record HeadsShown (index : Name → ℕ) (head : ℕ → ℕ) (parity : Bool) (marked : ℕ → Bool) (unit : Name → List Name) (living : Name → Bool) (prepared : ℕ → Option ℕ) : Type 0 where
  pub firsts : (n : Name) → begins_with n (unit n) ≡ true → head (index n) ≡ head_word (live_head parity (marked (index n)))
  pub members : (n : Name) → living n ≡ true → begins_with n (unit n) ≡ false
      → (head (index n) ≡ 0) ⊎ ((prepared n.lane ≡ Some (index n)) × (head (index n) ≡ head_word (live_head parity true)))

-- the rows of grey units
abbrev pub RowsShown : Sizes → (ℕ → ℕ → ℕ) → (ℕ → Place) → Type 0
RowsShown z rows place = (r w : ℕ) → r ≤ z.markers → w < row_words z → rows r w ≡ row_word place r w

-- the root bits, one for each item
abbrev pub RootWordsShown : Sizes → (ℕ → ℕ) → Core → Type 0
RootWordsShown z words c = (w : ℕ) → w < row_words z → words w ≡ root_word (sizes_of z) c w

-- ---- machine and world

-- whose frames and slices are open
pub record FramesShown (z : Sizes) (lane_open marker_open : ℕ → Bool) (opened : List Pass) : Type 0 where
  pub lanes : (l : ℕ) → lane_open l ≡ list_any (same_pass (Lane l)) opened
  pub markers : (m : ℕ) → marker_open m ≡ list_any (same_pass (Marker m)) opened
  pub count : count_below lane_open z.lanes + count_below marker_open z.markers ≡ length opened

-- The units in the world are not doomed, and marked as the history says. What else is not doomed is a removed unit that no sweep has met, which is not marked
pub record ColoursShown (index : Name → ℕ) (unit : Name → List Name) (living waits : Name → Bool) (marks : List Name → Bool) (marked doomed : ℕ → Bool) : Type 0 where
  pub marked_is : (n : Name) → living n ≡ true → marked (number index (unit n)) ≡ marks (unit n)
  pub alive : (n : Name) → living n ≡ true → doomed (number index (unit n)) ≡ false
  pub waiting : (n : Name) → waits n ≡ true → (doomed (index n) ≡ false) × (marked (index n) ≡ false)
  pub only : (i : ℕ) → doomed i ≡ false → (n : Name) × (index n ≡ i) × ((begins_with n (unit n) ≡ true) ⊎ (waits n ≡ true))

-- while a collection marks, the grey units stand somewhere, and those that the history says are scanned were scanned
pub record GreysShown (index : Name → ℕ) (unit : Name → List Name) (living : Name → Bool) (grey scans : List Name → Bool) (place : ℕ → Place) (scanned : ℕ → Bool) : Type 0 where
  pub grey_is : (n : Name) → living n ≡ true → not (same_place (place (number index (unit n))) Nowhere) ≡ grey (unit n)
  pub scanned_is : (n : Name) → living n ≡ true → scanned (number index (unit n)) ≡ scans (unit n)

-- the reference cells of the units in the world, and the units that they name
pub record CellsShown (z : Sizes) (index : Name → ℕ) (unit : Name → List Name) (living : Name → Bool) (refs : Name → ℕ) (target : Name → ℕ → Option Name) (cells : ℕ → List ℕ) (cell : ℕ → Option ℕ) : Type 0 where
  pub lists : (n : Name) → begins_with n (unit n) ≡ true → cells (index n) ≡ cells_of z index refs (unit n)
  pub targets : (n : Name) (slot : ℕ) → living n ≡ true → slot < refs n → cell (cell_number z (index n) slot) ≡ unit_named index unit (target n slot)

-- the root set: the bit of a rooted object's item names its unit, and a strong pointer the unit of its target
pub record RootsShown (z : Sizes) (index : Name → ℕ) (unit : Name → List Name) (living rooted : Name → Bool) (strong : ℕ → ℕ → Option Name) (root : ℕ → Option ℕ) : Type 0 where
  pub bits : (n : Name) → living n ≡ true → root (index n) ≡ (if rooted n then Some (number index (unit n)) else None)
  pub only : (i u : ℕ) → i < item_count z → root i ≡ Some u → (n : Name) × (index n ≡ i) × (living n ≡ true)
  pub strongs : (l h : ℕ) → l < z.lanes → h < z.strong → root (strong_place (sizes_of z) l h) ≡ unit_named index unit (strong l h)

-- the units of what a lane holds are held; of what the machine says it holds the history may know less, as a lane that loads a head is given nothing by that
abbrev pub HeldShown : (Name → ℕ) → (Name → List Name) → (ℕ → List Name) → (ℕ → ℕ → Bool) → Type 0
HeldShown index unit held holds = (l : ℕ) (n : Name) → has (held l) n ≡ true → holds l (number index (unit n)) ≡ true
