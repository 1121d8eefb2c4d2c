-- What a seat must know to make a step of one of its lanes. word is the operand: what is stored, swapped in, added, set or expected.
use Rattle.std.specs.Prelude.{◌≡◌, ◌≢◌, ℕ, suc, ◌+◌, ◌-◌, ◌*◌, ◌%◌, ◌^◌, ◌<◌, ◌≤◌, ◌==◌, ◌⊎◌, true, false, if◌then◌else◌, List, [], ◌∷◌, length, drop, Option, Some, None, IsTrue, ⊤}
use Rattle.std.specs.List.{list_all}
use Rattle.world_model.specs.Sizes.{Sizes, item_count}
use Rattle.world_model.specs.NameLists as names
use Rattle.world_model.specs.NameLists.{begins_with, ends_with}
use Rattle.world_model.specs.World.{is_open, unit_of, made, drawn, refs_of, plain_of}
use Rattle.world_model.specs.LaneSteps.{is_lawful, AreLoose}
use Rattle.world_model.specs.State.{IsMarked}
use Rattle.world_model.specs.Histories.{state_of, after}
use Rattle.world_model.specs.Stays.{parity_of}
use Rattle.word_layout.specs.Values.{ref_word, kind_word, stock_word, head_word, place_number}
use Rattle.mark_core.specs.Changes.{has}
use Rattle.heap_rule.specs.Types.{Name, Ref, Weak, Kind, Lane, Marking, Part, Memo, View, LaneGate, MemoLoad, LaneAsk}
use Rattle.heap_rule.specs.Types.part
use Rattle.heap_rule.specs.Types.item_word
use Rattle.heap_rule.specs.Types.lane_gate
use Rattle.heap_rule.specs.Types.memo_load
use Rattle.heap_rule.specs.Types.lane_ask
use Rattle.heap_rule.specs.Units.{first_of}
use Rattle.heap_rule.specs.Colours.{live_head}
use Rattle.heap_rule.specs.Items.{first_item}
use Rattle.heap_rule.specs.Pairs.{low_half, garbage_bit}
use Rattle.heap_rule.specs.Counters.{counter_pass}
use Rattle.heap_rule.specs.Views.{has_pass, NoSlice, lane_in, known_in, is_late, Among}
use Rattle.heap_rule.specs.Telling.{name_in, member_behind}

-- ---- a lane between its calls

-- the seat has the lane, its frame is open, it is not amid taking a unit apart, and it has nothing in hand and owes no dirty bit
pub record IsReady (v : View) (l : ℕ) : Type 0 where
  pub pass : has_pass v.passes (Lane l) ≡ true
  pub opened : is_open (after v.front) (Lane l) ≡ true
  pub whole : ((state_of v.front).frames l).broken ≡ []
  pub unprepared : (lane_in v.lanes l).prepared ≡ None
  pub cut : (lane_in v.lanes l).loose ≡ None
  pub empty : (lane_in v.lanes l).hand ≡ None
  pub clear : (lane_in v.lanes l).owes ≡ false

-- the lane has not marked a unit by its last entry
abbrev pub IsPaid : View → ℕ → Type 0
IsPaid v l = ((state_of v.front).frames l).owed ≡ None

-- or it has, and this object is of that unit
pub record PaysWith (v : View) (l : ℕ) (n : Name) : Type 0 where
  pub of : Name
  pub owed : ((state_of v.front).frames l).owed ≡ Some of
  pub held : names.has ((state_of v.front).frames l).held of ≡ true
  pub unit : names.has (unit_of (after v.front) of) n ≡ true

abbrev pub Pays : View → ℕ → Option Name → Type 0
Pays v l to = IsPaid v l ⊎ ((n : Name) × (to ≡ Some n) × PaysWith v l n)

-- a reference of the lane, which it holds
pub record HoldsRef (z : Sizes) (v : View) (l : ℕ) (r : Ref) : Type 0 where
  pub known : Among r v.refs
  pub held : names.has ((state_of v.front).frames l).held r.name ≡ true
  pub in_array : r.index < item_count z

-- the object at an item is one that the lane holds, in its open frame
abbrev pub HoldsItem : Sizes → View → ℕ → ℕ → Ref → Type 0
HoldsItem z v l index at = (has_pass v.passes (Lane l) ≡ true) × (is_open (after v.front) (Lane l) ≡ true) × HoldsRef z v l at × (at.index ≡ index)

-- what a lane may store: none, or what it holds, and while a collection marks what is marked
abbrev pub MayStore : Sizes → View → ℕ → Option Ref → Type 0
MayStore z v l None = ⊤
MayStore z v l (Some r) = HoldsRef z v l r × ((after v.front).phase ≡ Marking → IsMarked (state_of v.front) r.name)

-- a reference cell, and a plain cell, of an object that the lane holds
pub record IsRefCell (z : Sizes) (v : View) (l : ℕ) (at : Ref) (slot : ℕ) : Type 0 where
  pub ready : IsReady v l
  pub at_held : HoldsRef z v l at
  pub in_range : slot < refs_of (after v.front) at.name

pub record IsPlainCell (z : Sizes) (v : View) (l : ℕ) (at : Ref) (slot : ℕ) : Type 0 where
  pub ready : IsReady v l
  pub paid : IsPaid v l
  pub at_held : HoldsRef z v l at
  pub low : z.slots - plain_of (after v.front) at.name ≤ slot
  pub high : slot < z.slots

-- an object that the lane holds, and nothing under way
pub record IsFree (z : Sizes) (v : View) (l : ℕ) (at : Ref) : Type 0 where
  pub ready : IsReady v l
  pub paid : IsPaid v l
  pub at_held : HoldsRef z v l at

-- ---- making

-- what the lane knows of a word that it alone changes
abbrev pub Knows : View → ℕ → Part → ℕ → Type 0
Knows v l q x = known_in v.known (Lane l) q ≡ Some x

-- it has stored into an item that it has taken: the owner, the name and the kind
pub record IsFilled (v : View) (l first i : ℕ) (n : Name) (kind : Kind) : Type 0 where
  pub owner : Knows v l (part.Owner i) (suc first)
  pub name : Knows v l (part.NameOf i) (ref_word (Some (record { index = i; name = n })))
  pub kind_is : Knows v l (part.KindOf i) (kind_word kind)

-- each of these items is filled for the next name and the next of these kinds
abbrev pub AreFilled : View → ℕ → ℕ → List ℕ → ℕ → List Kind → Type 0
AreFilled v l first [] count [] = ⊤
AreFilled v l first (i ∷ is) count (k ∷ ks) = IsFilled v l first i (record { lane = l; count = count }) k × AreFilled v l first is (count + 1) ks
AreFilled v l first _ count _ = ⊥

-- and they are linked in order, and the last one has this word
abbrev pub AreLinked : View → ℕ → ℕ → List ℕ → Type 0
AreLinked v l end [] = ⊤
AreLinked v l end (i ∷ []) = Knows v l (part.Next i) end
AreLinked v l end (i ∷ (j ∷ is)) = Knows v l (part.Next i) (suc j) × AreLinked v l end (j ∷ is)

-- nothing is stored in these items
pub record IsUnfilled (v : View) (l i : ℕ) : Type 0 where
  pub owner : Knows v l (part.Owner i) 0
  pub name : Knows v l (part.NameOf i) 0
  pub kind : Knows v l (part.KindOf i) 0

abbrev pub AreUnfilled : View → ℕ → List ℕ → Type 0
AreUnfilled v l [] = ⊤
AreUnfilled v l (i ∷ is) = IsUnfilled v l i × AreUnfilled v l is

-- all that the lane has taken is one unit of these kinds, which comes under its next names
pub record MayPublish (z : Sizes) (v : View) (l first : ℕ) (kinds : List Kind) : Type 0 where
  pub ready : IsReady v l
  pub paid : IsPaid v l
  pub first_is : first_item (lane_in v.lanes l).making ≡ Some first
  pub filled : AreFilled v l first (lane_in v.lanes l).making (made (after v.front) l + 1) kinds
  pub linked : AreLinked v l 0 (lane_in v.lanes l).making
  pub few : length kinds ≤ 1024
  pub lawful : IsTrue (list_all (is_lawful z) kinds)
  pub names : made (after v.front) l + length kinds ≤ z.names

-- the owner that a lane stores into an item that it has taken: none, or one that it has taken
abbrev pub MayStoreWord : View → ℕ → Part → ℕ → Type 0
MayStoreWord v l (part.Owner i) x = (has (lane_in v.lanes l).making i ≡ true) × ((x ≡ 0) ⊎ ((j : ℕ) × (x ≡ suc j) × (has (lane_in v.lanes l).making j ≡ true)))
MayStoreWord v l (part.NameOf i) x = has (lane_in v.lanes l).making i ≡ true
MayStoreWord v l (part.KindOf i) x = has (lane_in v.lanes l).making i ≡ true
MayStoreWord v l q x = ⊥

-- a word of an item that the lane has taken, or the link of one in its free chain
abbrev pub IsOwnWord : View → ℕ → Part → Type 0
IsOwnWord v l (part.Owner i) = has (lane_in v.lanes l).making i ≡ true
IsOwnWord v l (part.NameOf i) = has (lane_in v.lanes l).making i ≡ true
IsOwnWord v l (part.KindOf i) = has (lane_in v.lanes l).making i ≡ true
IsOwnWord v l (part.Next i) = (has (lane_in v.lanes l).making i ≡ true) ⊎ (has (lane_in v.lanes l).free i ≡ true)
IsOwnWord v l q = ⊥

-- the word of a counter of the lane, by what the seat has seen
abbrev pub LaneCounts : View → ℕ → Part → ℕ → Type 0
LaneCounts v l (part.NamesMade m) x = (m ≡ l) × (x ≡ made (after v.front) l)
LaneCounts v l (part.SerialsMade m) x = (m ≡ l) × (x ≡ drawn (after v.front) l)
LaneCounts v l q x = ⊥

-- a counter of the lane, or its free stock
abbrev pub IsLaneOwn : ℕ → Part → Type 0
IsLaneOwn l (part.FreeStock m) = m ≡ l
IsLaneOwn l q = counter_pass q ≡ Some (Lane l)

-- ---- weak pointers

-- the memo of a lane, where it has one
abbrev pub memo_in : List Memo → ℕ → Option Memo
memo_in [] l = None
memo_in (m ∷ ms) l = if m.lane == l then Some m else memo_in ms l

-- the lane has a memo of this pair
pub record HasMemo (v : View) (l : ℕ) (pair : Weak) (m : Memo) : Type 0 where
  pub memo : memo_in v.memos l ≡ Some m
  pub of : m.pair ≡ pair

-- what must be so for a load into a memo: of a head, that the owner was loaded
abbrev pub MayRemember : Memo → MemoLoad → Type 0
MayRemember m memo_load.Head = (o : ℕ) × (m.owner ≡ Some o)
MayRemember m _ = ⊤

-- ---- taking a unit apart

-- the last member of a unit of two or more of the lane, which the lane takes apart or begins to
pub record MayLoosen (z : Sizes) (v : View) (l : ℕ) (of : Ref) : Type 0 where
  pub pass : has_pass v.passes (Lane l) ≡ true
  pub opened : is_open (after v.front) (Lane l) ≡ true
  pub paid : IsPaid v l
  pub at_held : HoldsRef z v l of
  pub own : of.name.lane ≡ l
  pub unmarked : (after v.front).phase ≢ Marking
  pub last : ends_with of.name (unit_of (after v.front) of.name) ≡ true
  pub parts : ((state_of v.front).frames l).broken ≢ [] → names.has ((state_of v.front).frames l).broken of.name ≡ true
  pub cut : (lane_in v.lanes l).loose ≡ None

-- the last member of what is left of the unit that the lane takes apart
abbrev pub IsLastLeft : View → ℕ → Name → Type 0
IsLastLeft v l n = (names.has (unit_of (after v.front) (first_of ((state_of v.front).frames l).broken)) n ≡ true) × (member_behind (after v.front) n ≡ None)

-- ---- all of it

-- why a lane may load the gate
abbrev pub LaneGateMay : Sizes → View → ℕ → LaneGate → Type 0
LaneGateMay z v l lane_gate.Look = has_pass v.passes (Lane l) ≡ true
LaneGateMay z v l (lane_gate.Beyond pair) = IsReady v l × IsPaid v l × (item_count z ≤ pair.index)
LaneGateMay z v l (lane_gate.Refuse at) = IsFree z v l at × (at.name.lane ≡ l)
LaneGateMay z v l (lane_gate.Apart at count) = (has_pass v.passes (Lane l) ≡ true) × (is_open (after v.front) (Lane l) ≡ true) × IsPaid v l × HoldsRef z v l at × (at.name.lane ≡ l)
    × ((after v.front).phase ≢ Marking) × ((lane_in v.lanes l).prepared ≡ None) × ((lane_in v.lanes l).loose ≡ None)
    × AreLoose (after v.front) at.name ((state_of v.front).frames l).broken ((state_of v.front).frames l).loosened count

-- the value of the colour bit, bit 3 of a head
abbrev pub colour_bit : ℕ
colour_bit = 8

-- what a seat must know to make this step of the lane
abbrev pub LaneMay : Sizes → View → ℕ → LaneAsk → ℕ → Type 0
LaneMay z v l lane_ask.Open word = (l < z.lanes) × (has_pass v.passes (Lane l) ≡ true) × (is_open (after v.front) (Lane l) ≡ false) × (word ≡ 256)
LaneMay z v l lane_ask.Close word = IsReady v l × IsPaid v l × (word ≡ 256)
LaneMay z v l (lane_ask.Shade unit) word = ((of : Ref) × IsFree z v l of × (of.index ≡ unit) × (begins_with of.name (unit_of (after v.front) of.name) ≡ true)) × ((after v.front).phase ≡ Marking)
    × (word ≡ (if parity_of v.front then colour_bit else 2 ^ 64 - 1 - colour_bit))
LaneMay z v l (lane_ask.SwapCell at slot to) word = IsRefCell z v l at slot × MayStore z v l to × Pays v l (name_in to) × (word ≡ ref_word to)
LaneMay z v l (lane_ask.SwapPlain at slot value) word = IsPlainCell z v l at slot × (value < 2 ^ 64) × (word ≡ value)
LaneMay z v l (lane_ask.SwapStrong h to) word = IsReady v l × (h < z.strong) × MayStore z v l to × Pays v l (name_in to) × (word ≡ ref_word to)
LaneMay z v l (lane_ask.LoadCell at slot) word = IsRefCell z v l at slot × IsPaid v l
LaneMay z v l (lane_ask.LoadPlain at slot) word = IsPlainCell z v l at slot
LaneMay z v l (lane_ask.LoadStrong h) word = IsReady v l × IsPaid v l × (h < z.strong)
LaneMay z v l (lane_ask.AddHand unit) word = (has_pass v.passes (Lane l) ≡ true) × ((lane_in v.lanes l).hand ≡ Some unit) × NoSlice v × (word ≡ 2 ^ (unit % 64))
LaneMay z v l lane_ask.SetDirty word = (has_pass v.passes (Lane l) ≡ true) × ((lane_in v.lanes l).owes ≡ true) × (word ≡ 8)
LaneMay z v l (lane_ask.LoadGate why) word = LaneGateMay z v l why
LaneMay z v l (lane_ask.SetRoot at true) word = IsReady v l × MayStore z v l (Some at) × Pays v l (Some at.name) × (word ≡ 2 ^ (at.index % 64))
LaneMay z v l (lane_ask.SetRoot at false) word = IsFree z v l at × (word ≡ 2 ^ 64 - 1 - 2 ^ (at.index % 64))
LaneMay z v l (lane_ask.LoadOf index item_word.Next) word = (at : Ref) × HoldsItem z v l index at × (has_pass v.passes (Lane at.name.lane) ≡ true) × ((lane_in v.lanes at.name.lane).loose ≡ None)
LaneMay z v l (lane_ask.LoadOf index what) word = (at : Ref) × HoldsItem z v l index at
LaneMay z v l (lane_ask.LoadKept q) word = (has_pass v.passes (Lane l) ≡ true) × IsOwnWord v l q
LaneMay z v l (lane_ask.StoreItem q value) word = (has_pass v.passes (Lane l) ≡ true) × MayStoreWord v l q value × (word ≡ value)
LaneMay z v l (lane_ask.Link i to) word = (has_pass v.passes (Lane l) ≡ true) × (has (lane_in v.lanes l).making i ≡ true) × (word ≡ place_number to)
LaneMay z v l (lane_ask.Publish first) word = ((kinds : List Kind) × MayPublish z v l first kinds) × (word ≡ head_word (live_head (parity_of v.front) true))
LaneMay z v l (lane_ask.TakeReturn asked) word = IsReady v l × IsPaid v l × (asked ≤ z.names - made (after v.front) l) × (word ≡ 0)
LaneMay z v l (lane_ask.TakeFree count) word = (has_pass v.passes (Lane l) ≡ true) × (count ≤ length (lane_in v.lanes l).free)
    × (word ≡ stock_word (record { first = first_item (drop count (lane_in v.lanes l).free); count = length (lane_in v.lanes l).free - count }))
LaneMay z v l (lane_ask.GiveFree kept) word = (has_pass v.passes (Lane l) ≡ true) × AreUnfilled v l (lane_in v.lanes l).making
    × AreLinked v l (place_number (first_item (lane_in v.lanes l).free)) (drop kept (lane_in v.lanes l).making) × (kept < length (lane_in v.lanes l).making)
    × (word ≡ stock_word (record { first = first_item (drop kept (lane_in v.lanes l).making); count = length (drop kept (lane_in v.lanes l).making) + length (lane_in v.lanes l).free }))
LaneMay z v l (lane_ask.LoadNames asked) word = IsReady v l × IsPaid v l × (is_late v.late (part.NamesMade l) ≡ false)
LaneMay z v l (lane_ask.LoadOwn q) word = (has_pass v.passes (Lane l) ≡ true) × IsLaneOwn l q
LaneMay z v l (lane_ask.StoreOwn q value) word = (has_pass v.passes (Lane l) ≡ true) × LaneCounts v l q value × (word ≡ value)
LaneMay z v l (lane_ask.FindSerial at count) word = IsFree z v l at × (count ≡ drawn (after v.front) l)
LaneMay z v l (lane_ask.GiveSerial at serial expected) word = IsFree z v l at × (drawn (after v.front) l < z.serials) × (serial ≡ (drawn (after v.front) l + 1) * 16 + l)
    × (low_half expected ≡ 0) × (expected ≤ garbage_bit) × (word ≡ expected)
LaneMay z v l (lane_ask.FirstSerial pair) word = IsReady v l × IsPaid v l × (pair.index < item_count z)
LaneMay z v l (lane_ask.LoadMemo pair what) word = IsReady v l × ((m : Memo) × HasMemo v l pair m × MayRemember m what)
LaneMay z v l (lane_ask.SecondSerial pair) word = IsReady v l × IsPaid v l × ((m : Memo) × HasMemo v l pair m)
LaneMay z v l (lane_ask.Prepare i) word = ((of : Ref) × MayLoosen z v l of × (of.index ≡ i)) × ((lane_in v.lanes l).prepared ≡ None) × (word ≡ head_word (live_head (parity_of v.front) true))
LaneMay z v l (lane_ask.Loosen i) word = ((of : Ref) × MayLoosen z v l of × (of.index ≡ i)) × ((lane_in v.lanes l).prepared ≡ Some i) × (word ≡ suc i)
LaneMay z v l (lane_ask.CutOff i j) word = ((last : Ref) × HoldsItem z v l j last × IsLastLeft v l last.name) × ((lane_in v.lanes l).loose ≡ Some i) × (word ≡ 0)
LaneMay z v l (lane_ask.MarkGarbage at) word = IsFree z v l at × (word ≡ garbage_bit)
LaneMay z v l (lane_ask.IsValid at) word = IsFree z v l at
