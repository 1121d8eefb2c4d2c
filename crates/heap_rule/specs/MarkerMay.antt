-- What a seat must know to make a step of one of its markers.
use Rattle.std.specs.Prelude.{◌≡◌, ℕ, ◌+◌, ◌-◌, ◌*◌, ◌%◌, ◌^◌, ◌<◌, ◌≤◌, true, false, if◌then◌else◌, List, [], ◌∷◌, Some, None, ⊤}
use Rattle.world_model.specs.Sizes.{Sizes, item_count}
use Rattle.world_model.specs.World.{is_open, in_world}
use Rattle.world_model.specs.MarkerSteps.{WasWithin, member_count}
use Rattle.world_model.specs.Histories.{state_of, after}
use Rattle.world_model.specs.Stays.{parity_of}
use Rattle.word_layout.specs.Places.{row_words}
use Rattle.mark_core.specs.Changes.{has}
use Rattle.heap_rule.specs.Types.{Ref, Marker, Marking, Marked, MarkStop, Scanning, View, ItemWord, MarkerAsk}
use Rattle.heap_rule.specs.Types.stop
use Rattle.heap_rule.specs.Types.item_word
use Rattle.heap_rule.specs.Types.marker_ask
use Rattle.heap_rule.specs.Units.{cell_number}
use Rattle.heap_rule.specs.Views.{has_pass, marker_in, Among}
use Rattle.heap_rule.specs.LaneMay.{colour_bit}

-- the seat has the marker, and its slice is open
pub record InSlice (v : View) (m : ℕ) : Type 0 where
  pub pass : has_pass v.passes (Marker m) ≡ true
  pub opened : is_open (after v.front) (Marker m) ≡ true

-- no other marker of the seat has its slice open
abbrev pub IsAlone : View → ℕ → Type 0
IsAlone v m = (j : ℕ) → has_pass v.passes (Marker j) ≡ true → is_open (after v.front) (Marker j) ≡ true → j ≡ m

-- it has neither a stack nor a scan
pub record IsIdle (v : View) (m : ℕ) : Type 0 where
  pub slice : InSlice v m
  pub empty : (marker_in v.markers m).stack ≡ []
  pub idle : (marker_in v.markers m).scan ≡ None

-- the cursor of its scan is at this cell, and it has found nothing there yet
pub record IsAtCell (z : Sizes) (v : View) (m i slot : ℕ) : Type 0 where
  pub scan : Scanning
  pub rest : List ℕ
  pub is : (marker_in v.markers m).scan ≡ Some scan
  pub left : scan.left ≡ cell_number z i slot ∷ rest
  pub found : scan.found ≡ None

-- it has found a unit at its cursor
pub record HasFound (v : View) (m t : ℕ) : Type 0 where
  pub scan : Scanning
  pub is : (marker_in v.markers m).scan ≡ Some scan
  pub found : scan.found ≡ Some t

-- what a marker may say for its stop: the budget is spent; or it has found all row words zero since its slice opened
abbrev pub MaySay : Sizes → List ℕ → ℕ → Marked → MarkStop → Type 0
MaySay z zeros budget reply stop.Spent = budget ≤ reply.scanned
MaySay z zeros budget reply stop.Idle = (reply.scanned < budget) × ((r n : ℕ) → r ≤ z.markers → n < row_words z → has zeros (r * row_words z + n) ≡ true)

pub record MayCloseSlice (z : Sizes) (v : View) (m budget : ℕ) (reply : Marked) : Type 0 where
  pub idle : IsIdle v m
  pub clear : (marker_in v.markers m).owes ≡ false
  pub scanned : reply.scanned ≡ member_count ((state_of v.front).slices m).scanned
  pub within : WasWithin budget ((state_of v.front).slices m).scanned
  pub says : MaySay z (marker_in v.markers m).zeros budget reply reply.stop

-- a word of a row
pub record IsRowWord (z : Sizes) (row n : ℕ) : Type 0 where
  pub row_in : row ≤ z.markers
  pub word_in : n < row_words z

-- an object of the unit under scan, or one that a cell of that named in this slice, while a collection marks: so it lives
pub record MeetsRef (z : Sizes) (v : View) (m : ℕ) (at : Ref) : Type 0 where
  pub slice : InSlice v m
  pub known : Among at v.refs
  pub lives : in_world (after v.front) at.name ≡ true
  pub in_array : at.index < item_count z

-- the item of a unit does not change while a collection marks, and no other link is loaded
abbrev pub MayLoadWord : View → ItemWord → Type 0
MayLoadWord v item_word.Next = (after v.front).phase ≡ Marking
MayLoadWord v _ = ⊤

-- what a seat must know to make this step of the marker
abbrev pub MarkerMay : Sizes → View → ℕ → MarkerAsk → ℕ → Type 0
MarkerMay z v m marker_ask.Open word = (m < z.markers) × (has_pass v.passes (Marker m) ≡ true) × (is_open (after v.front) (Marker m) ≡ false) × (word ≡ 256)
MarkerMay z v m (marker_ask.Close budget reply) word = MayCloseSlice z v m budget reply × (word ≡ 256)
MarkerMay z v m marker_ask.ShadeFound word = InSlice v m × ((t : ℕ) × HasFound v m t) × (word ≡ (if parity_of v.front then colour_bit else 2 ^ 64 - 1 - colour_bit))
MarkerMay z v m (marker_ask.ScanCell i slot) word = InSlice v m × IsAtCell z v m i slot × (i < item_count z) × (slot < z.slots)
MarkerMay z v m (marker_ask.AddRow unit) word = InSlice v m × IsAlone v m × (has (marker_in v.markers m).stack unit ≡ true) × (word ≡ 2 ^ (unit % 64))
MarkerMay z v m (marker_ask.TakeRow row n) word = IsIdle v m × IsRowWord z row n × (word ≡ 0)
MarkerMay z v m (marker_ask.LoadRow row n) word = InSlice v m × IsRowWord z row n
MarkerMay z v m marker_ask.SetDirty word = (has_pass v.passes (Marker m) ≡ true) × ((marker_in v.markers m).owes ≡ true) × (word ≡ 8)
MarkerMay z v m marker_ask.LoadGate word = has_pass v.passes (Marker m) ≡ true
MarkerMay z v m (marker_ask.StartScan unit) word = InSlice v m × ((marker_in v.markers m).scan ≡ None) × (has (marker_in v.markers m).stack unit ≡ true)
MarkerMay z v m marker_ask.SettleFound word = InSlice v m × ((t : ℕ) × HasFound v m t)
MarkerMay z v m (marker_ask.LoadOf index what) word = ((at : Ref) × MeetsRef z v m at × (at.index ≡ index)) × MayLoadWord v what
