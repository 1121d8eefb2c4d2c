-- The words in which a step tells its seat what it found and did.
use Rattle.std.specs.Prelude.{◌≡◌, ℕ, suc, ◌<◌, ◌==◌, ◌&&◌, Bool, true, false, not, if◌then◌else◌, List, [], ◌∷◌, ◌++◌, length, Option, Some, None}
use Rattle.std.specs.Int.{bit_at}
use Rattle.std.specs.List.{filter}
use Rattle.world_model.specs.Sizes.{Sizes, item_count}
use Rattle.world_model.specs.NameLists.{first_member, after_name}
use Rattle.world_model.specs.World.{World, unit_of, in_world, kind_of, pair_of}
use Rattle.world_model.specs.Histories.{Legal, after}
use Rattle.world_model.specs.Stays.{parity_of}
use Rattle.word_layout.specs.Values.{gate_word, IsGate, head_word, IsHead, ref_word, IsRef, kind_word, place_number}
use Rattle.heap_rule.specs.Types.{Name, Ref, Kind, Marking, Phase, Pass, Lane, Entry, Gate, Head, Life, Part, LaneView, MarkerView, CollectorView, Known, View, ItemWord}
use Rattle.heap_rule.specs.Types.part
use Rattle.heap_rule.specs.Types.life
use Rattle.heap_rule.specs.Types.item_word
use Rattle.heap_rule.specs.Memory.{same_part}
use Rattle.heap_rule.specs.Units.{first_of}
use Rattle.heap_rule.specs.Pairs.{serial_word}
use Rattle.heap_rule.specs.Removal.{old_unit}
use Rattle.heap_rule.specs.Views.{by_passes, lane_in, marker_in, known_in, Among}

-- but for its front the view is this one now
abbrev pub Now : View → View → Type 0
Now u w = w ≡ record u { front = w.front }

-- The step stands behind this history, which the seat has seen now, and adds these entries; none of what others did meanwhile is of its passes; and but for its front its view is u now
pub record Adds (z : Sizes) (v : View) (before entries : List Entry) (u w : View) : Type 0 where
  pub between : List Entry
  pub others : by_passes v.passes between ≡ []
  pub seen : before ≡ v.front ++ between
  pub front : w.front ≡ before ++ entries
  pub legal : Legal z w.front
  pub now : Now u w

-- ---- changes of a view

abbrev pub with_lane : ℕ → (LaneView → LaneView) → View → View
with_lane l change v = record v { lanes = change (record (lane_in v.lanes l) { lane = l }) ∷ v.lanes }

abbrev pub with_marker : ℕ → (MarkerView → MarkerView) → View → View
with_marker m change v = record v { markers = change (record (marker_in v.markers m) { marker = m }) ∷ v.markers }

abbrev pub with_collector : (CollectorView → CollectorView) → View → View
with_collector change v = record v { collector = change v.collector }

abbrev pub learns : Pass → Part → ℕ → View → View
learns p q x v = record v { known = record { pass = p; part = q; value = x } ∷ v.known }

-- a counter is behind, and it is not behind any more
abbrev pub falls_behind : Part → View → View
falls_behind q v = record v { late = q ∷ v.late }

abbrev pub catches_up : Part → View → View
catches_up q v = record v { late = filter (λ p. not (same_part q p)) v.late }

-- the numbers but for this one
abbrev pub without : ℕ → List ℕ → List ℕ
without u items = filter (λ x. not (x == u)) items

-- ---- references

abbrev pub name_in : Option Ref → Option Name
name_in None = None
name_in (Some r) = Some r.name

abbrev pub index_in : Option Ref → Option ℕ
index_in None = None
index_in (Some r) = Some r.index

abbrev pub ref_list : Option Ref → List Ref
ref_list None = []
ref_list (Some r) = r ∷ []

abbrev pub knows : Option Ref → View → View
knows got v = record v { refs = ref_list got ++ v.refs }

-- a reference is one to an item of the array, or none
abbrev pub InArray : Sizes → Option Ref → Type 0
InArray z None = Unit {0}
InArray z (Some r) = r.index < item_count z

-- the word is that of a reference
pub record Gave (z : Sizes) (found : ℕ) (got : Option Ref) : Type 0 where
  pub ref : IsRef got
  pub in_array : InArray z got
  pub found_is : found ≡ ref_word got

-- ---- gates and heads

-- the word is that of a gate, as the history leaves it
pub record SawGate (before : List Entry) (found : ℕ) (g : Gate) : Type 0 where
  pub gate : IsGate g
  pub found_is : found ≡ gate_word g
  pub phase_is : g.phase ≡ (after before).phase
  pub parity_is : g.parity ≡ parity_of before
  pub frames_is : g.frames ≡ length (after before).opened

-- the word is that of a head
pub record SawHead (found : ℕ) (h : Head) : Type 0 where
  pub head : IsHead h
  pub found_is : found ≡ head_word h

abbrev pub same_bool : Bool → Bool → Bool
same_bool true b = b
same_bool false b = not b

-- whether a head says that its unit is marked, and whether it says that it is in the world
abbrev pub is_marked_head : List Entry → Head → Bool
is_marked_head before h = same_bool h.colour (parity_of before)

abbrev pub lives_in : Phase → Bool → Bool
lives_in Marking marked = true
lives_in _ marked = marked

abbrev pub is_live : Life → Bool
is_live life.Live = true
is_live _ = false

abbrev pub is_live_head : List Entry → Head → Bool
is_live_head before h = is_live h.life && lives_in (after before).phase (is_marked_head before h)

-- a bit of a word
abbrev pub is_bit : ℕ → ℕ → Bool
is_bit word i = bit_at word i == 1

-- ---- the words of an object

-- the unit of an object that lives, or as it stood when it was removed
abbrev pub unit_at : World → Name → List Name
unit_at w n = if in_world w n then unit_of w n else old_unit w.last_removed n

-- the member behind this one
abbrev pub member_behind : World → Name → Option Name
member_behind w n = first_member (after_name n (unit_of w n))

-- what the word of an object says: its unit by the first member, its name, its kind, or the member behind it; and the references by which it says so
abbrev pub WordSays : Sizes → World → Ref → ItemWord → ℕ → List Ref → Type 0
WordSays z w at item_word.Owner found more = (first : Ref) × (more ≡ first ∷ []) × (first.name ≡ first_of (unit_at w at.name)) × (first.index < item_count z) × (found ≡ suc first.index)
WordSays z w at item_word.Name found more = (more ≡ []) × (found ≡ ref_word (Some at))
WordSays z w at item_word.Kind found more = (more ≡ []) × ((k : Kind) × (kind_of w at.name ≡ Some k) × (found ≡ kind_word k))
WordSays z w at item_word.Next found more = (got : Option Ref) × (more ≡ ref_list got) × InArray z got × (name_in got ≡ member_behind w at.name) × (found ≡ place_number (index_in got))

-- the reference of the seat to the object at an item: another one of the seat to that item is of an object that is not there any more
pub record IsTheRef (z : Sizes) (v : View) (there : Name → Bool) (index : ℕ) (at : Ref) : Type 0 where
  pub known : Among at v.refs
  pub index_is : at.index ≡ index
  pub in_array : index < item_count z
  pub here : there at.name ≡ true
  pub only : (r : Ref) → Among r v.refs → r.index ≡ index → there r.name ≡ true → r ≡ at

-- a name does not change, and is told by what the seat had seen; of all else the seat sees what was done
abbrev pub SeenFor : ItemWord → View → List Entry → Type 0
SeenFor item_word.Name v before = before ≡ v.front
SeenFor _ v before = Unit {0}

-- what the word is that the seat knows
abbrev pub KnownSays : View → Pass → Part → ℕ → Type 0
KnownSays v p q found = (x : ℕ) → known_in v.known p q ≡ Some x → found ≡ x

-- the part of a word of an item
abbrev pub part_of : ItemWord → ℕ → Part
part_of item_word.Owner i = part.Owner i
part_of item_word.Name i = part.NameOf i
part_of item_word.Kind i = part.KindOf i
part_of item_word.Next i = part.Next i

-- the serial word of an object
abbrev pub SerialSays : World → Ref → ℕ → Type 0
SerialSays w at found = found ≡ serial_word (pair_of w at.name) (w.garbage at.name)

-- ---- lists of items

-- the item behind this one in a list
abbrev pub item_behind : List ℕ → ℕ → Option ℕ
item_behind [] i = None
item_behind (j ∷ []) i = None
item_behind (j ∷ (k ∷ ks)) i = if i == j then Some k else item_behind (k ∷ ks) i

-- all items are of the array
abbrev pub AllInArray : Sizes → List ℕ → Type 0
AllInArray z [] = Unit {0}
AllInArray z (i ∷ is) = (i < item_count z) × AllInArray z is

-- what a lane knows of items that it takes out of a chain: they are blank, and linked, and the last one has this word
abbrev pub blank_words : ℕ → ℕ → List Known
blank_words l i = record { pass = Lane l; part = part.Owner i; value = 0 } ∷ record { pass = Lane l; part = part.NameOf i; value = 0 } ∷ record { pass = Lane l; part = part.KindOf i; value = 0 } ∷ []

abbrev pub link_word : ℕ → ℕ → ℕ → Known
link_word l i x = record { pass = Lane l; part = part.Next i; value = x }

abbrev pub taken_words : ℕ → ℕ → List ℕ → List Known
taken_words l end [] = []
taken_words l end (i ∷ []) = link_word l i end ∷ blank_words l i
taken_words l end (i ∷ (j ∷ is)) = link_word l i (suc j) ∷ (blank_words l i ++ taken_words l end (j ∷ is))
