-- What a seat must know to make a step of the collector.
use Rattle.std.specs.Prelude.{◌≡◌, ◌≢◌, ℕ, suc, ◌+◌, ◌-◌, ◌*◌, ◌%◌, ◌^◌, ◌<◌, ◌≤◌, ◌⊎◌, min, Bool, true, false, not, if◌then◌else◌, List, [], ◌∷◌, ◌++◌, length, Option, Some, None, ⊤}
use Rattle.std.specs.List.{filter}
use Rattle.world_model.specs.Sizes.{Sizes, item_count}
use Rattle.world_model.specs.NameLists as names
use Rattle.world_model.specs.NameLists.{begins_with}
use Rattle.world_model.specs.World.{in_world, polls_of, left_of}
use Rattle.world_model.specs.Follows.{is_removed}
use Rattle.world_model.specs.CollectorSteps.{to_begin, to_release, to_ask}
use Rattle.world_model.specs.Histories.{state_of, after}
use Rattle.world_model.specs.Stays.{parity_of}
use Rattle.word_layout.specs.Values.{gate_word, head_word, stock_word, place_number}
use Rattle.word_layout.specs.Places.{row_words}
use Rattle.mark_core.specs.Changes.{has}
use Rattle.mark_core.specs.Machine.{strong_place}
use Rattle.mark_core.specs.Steps.{looked_all}
use Rattle.heap_rule.specs.Types.{Name, Ref, Idle, Marking, Gathering, Phase, Collector, Part, NoJob, Roots, Look, Fresh, Owned, White, Stock, View, ItemWord, LifeStep, CollectorGate, CollectorAsk}
use Rattle.heap_rule.specs.Types.life
use Rattle.heap_rule.specs.Types.part
use Rattle.heap_rule.specs.Types.item_word
use Rattle.heap_rule.specs.Types.life_step
use Rattle.heap_rule.specs.Types.collector_gate
use Rattle.heap_rule.specs.Types.collector_ask
use Rattle.heap_rule.specs.Units.{sizes_of}
use Rattle.heap_rule.specs.Colours.{colour_of}
use Rattle.heap_rule.specs.Items.{first_item, last_item}
use Rattle.heap_rule.specs.Removal.{old_unit, left_in_order, indexes, names_of, Each}
use Rattle.heap_rule.specs.Counters.{counter_pass, polls_next}
use Rattle.heap_rule.specs.Views.{has_pass, NoSlice, known_in, is_late, Among}
use Rattle.heap_rule.specs.LaneMay.{colour_bit}
use Rattle.heap_rule.specs.Telling.{name_in, index_in, ref_list}

-- ---- between its calls

abbrev pub IsCollecting : View → Type 0
IsCollecting v = has_pass v.passes Collector ≡ true

-- no object has just agreed, which the next entry would have to finish
abbrev pub NoneAgreed : View → Type 0
NoneAgreed v = (state_of v.front).collector.agreed ≡ None

-- the collector has no job and nothing in hand, and may add an entry
pub record AtRest (v : View) : Type 0 where
  pub pass : IsCollecting v
  pub agreed : NoneAgreed v
  pub job : v.collector.job ≡ NoJob
  pub empty : v.collector.hand ≡ None

-- a sweep has passed all items before its cursor, and looks at none
pub record IsSweeping (z : Sizes) (v : View) (budget : ℕ) : Type 0 where
  pub rest : AtRest v
  pub gathering : (after v.front).phase ≡ Gathering
  pub fresh : v.collector.looking ≡ Fresh
  pub within : v.collector.cursor - (after v.front).swept ≤ budget

-- ---- removed objects

-- the objects that sweeps have found, and those of the running sweep behind them
abbrev pub all_found : View → List Name
all_found v = (after v.front).found ++ v.collector.sweeping

-- the unit of a removed object, as the seat has seen it
abbrev pub removed_unit : View → Name → List Name
removed_unit v n = old_unit (after v.front).last_removed n

-- the removed objects that are found and not released, in the order of destruction
abbrev pub left_now : View → List Name
left_now v = left_in_order (after v.front).removals (after v.front).last_removed (all_found v)

-- the unit that begins at this item is found, and the last of the order of destruction, and alone is not in the removed chain
pub record MayAppend (z : Sizes) (v : View) (first : ℕ) : Type 0 where
  pub pass : IsCollecting v
  pub of : Ref
  pub known : Among of v.refs
  pub index_is : of.index ≡ first
  pub in_array : first < item_count z
  pub begins : begins_with of.name (removed_unit v of.name) ≡ true
  pub order : names_of v.collector.chain ++ removed_unit v of.name ≡ left_now v

-- the unit that is the next to be released, by its first member
abbrev pub IsNextReleased : View → Name → Type 0
IsNextReleased v of = to_release (after v.front) ≡ Some of

-- it stands in the removed chain between these
pub record CutsUnit (v : View) (behind : Option ℕ) (front rest : List Ref) : Type 0 where
  pub of : Name
  pub next : IsNextReleased v of
  pub unit : List Ref
  pub unit_is : names_of unit ≡ removed_unit v of
  pub chain : v.collector.chain ≡ (front ++ unit) ++ rest
  pub behind_is : behind ≡ last_item (indexes front)

-- the object is a member of that unit
pub record IsClearable (z : Sizes) (v : View) (at : Ref) : Type 0 where
  pub pass : IsCollecting v
  pub of : Name
  pub next : IsNextReleased v of
  pub known : Among at v.refs
  pub in_array : at.index < item_count z
  pub member : names.has (removed_unit v of) at.name ≡ true

-- and its last one, which is out of the removed chain
pub record IsLastOut (z : Sizes) (v : View) (at : Ref) : Type 0 where
  pub clearable : IsClearable z v at
  pub last : names.is_last at.name (removed_unit v clearable.of) ≡ true
  pub out : names.has (names_of v.collector.chain) at.name ≡ false

-- words of an item that a release clears
abbrev pub IsCleared : Sizes → ℕ → Part → Type 0
IsCleared z i (part.Head j) = j ≡ i
IsCleared z i (part.Owner j) = j ≡ i
IsCleared z i (part.NameOf j) = j ≡ i
IsCleared z i (part.KindOf j) = j ≡ i
IsCleared z i (part.Serial j) = j ≡ i
IsCleared z i (part.Cell j slot) = (j ≡ i) × (slot < z.slots)
IsCleared z i q = ⊥

-- the collector knows of all these words that they are zero
abbrev pub KnowsCleared : Sizes → View → Ref → Type 0
KnowsCleared z v at = (q : Part) → IsCleared z at.index q → known_in v.known Collector q ≡ Some 0

-- it knows the links of the unit, and that the last one has this word
abbrev pub KnowsLinks : View → ℕ → List ℕ → Type 0
KnowsLinks v end [] = ⊤
KnowsLinks v end (i ∷ []) = known_in v.known Collector (part.Next i) ≡ Some end
KnowsLinks v end (i ∷ (j ∷ is)) = (known_in v.known Collector (part.Next i) ≡ Some (suc j)) × KnowsLinks v end (j ∷ is)

-- the unit is cleared and linked to the stock of returned items of its lane that is expected; and the removed chain has all others that are left
pub record MayRelease (z : Sizes) (v : View) (l first expected new : ℕ) : Type 0 where
  pub pass : IsCollecting v
  pub agreed : NoneAgreed v
  pub of : Name
  pub next : IsNextReleased v of
  pub lane_is : of.lane ≡ l
  pub members : List Ref
  pub members_are : names_of members ≡ removed_unit v of
  pub first_is : first_item (indexes members) ≡ Some first
  pub known : Each (λ r. Among r v.refs) members
  pub cleared : Each (KnowsCleared z v) members
  pub stock : Stock
  pub stock_is : expected ≡ stock_word stock
  pub new_is : new ≡ stock_word (record { first = Some first; count = length members + stock.count })
  pub returned : v.collector.returned ≡ Some (record { lane = l; word = expected })
  pub linked : KnowsLinks v (place_number stock.first) (indexes members)
  pub order : names_of v.collector.chain ≡ filter (λ n. not (names.has (removed_unit v of) n)) (left_now v)

-- ---- destruction

-- the head of a removed object at a step of its destruction: the colour may be any
abbrev pub IsLifeWord : View → Ref → LifeStep → ℕ → Type 0
IsLifeWord v of life_step.Begin word = (colour : Bool) × (word ≡ head_word (record { life = life.Begun; colour = colour; polls = 0 }))
IsLifeWord v of (life_step.Ask poll answer) word = (colour : Bool) × (word ≡ head_word (record { life = life.Begun; colour = colour; polls = poll }))
IsLifeWord v of life_step.Finish word = (colour : Bool) × (word ≡ head_word (record { life = life.Finished; colour = colour; polls = polls_of (after v.front) of.name }))

-- the step is the next of the destruction
abbrev pub IsNextLife : View → Ref → LifeStep → Type 0
IsNextLife v of life_step.Begin = AtRest v × (to_begin (after v.front) ≡ Some of.name)
IsNextLife v of (life_step.Ask poll answer) = AtRest v × (to_begin (after v.front) ≡ None) × (to_release (after v.front) ≡ None) × (to_ask (state_of v.front) ≡ Some of.name)
    × (poll ≡ min (polls_of (after v.front) of.name + 1) 65535)
IsNextLife v of life_step.Finish = IsCollecting v × ((state_of v.front).collector.agreed ≡ Some of.name)

-- ---- counters

-- the place of the polls: the last item of the removed chain while it gathers, and else where the object stands at which the polls go on
abbrev pub PollsAt : View → Phase → ℕ → Type 0
PollsAt v Gathering x = x ≡ place_number (last_item (indexes v.collector.chain))
PollsAt v _ x = (got : Option Ref) × (x ≡ place_number (index_in got)) × (name_in got ≡ polls_next (after v.front) (state_of v.front).collector.asked) × Each (λ r. Among r v.refs) (ref_list got)

-- the word of a counter of the collector, by what the seat has seen
abbrev pub CollectorCounts : View → Part → ℕ → Type 0
CollectorCounts v part.Cursor x = x ≡ (after v.front).swept
CollectorCounts v part.Left x = x ≡ left_of (after v.front)
CollectorCounts v part.Polling x = PollsAt v (after v.front).phase x
CollectorCounts v q x = ⊥

-- ---- all of it

-- why the collector may load the gate
abbrev pub CollectorGateMay : Sizes → View → CollectorGate → Type 0
CollectorGateMay z v collector_gate.Look = IsCollecting v
CollectorGateMay z v (collector_gate.Begin left) = AtRest v × (left ≡ left_of (after v.front))
CollectorGateMay z v collector_gate.Commit = AtRest v
CollectorGateMay z v (collector_gate.Sweep budget) = AtRest v
CollectorGateMay z v (collector_gate.SweepMore budget) = IsSweeping z v budget × (v.collector.cursor < item_count z)
CollectorGateMay z v (collector_gate.Purge budget) = AtRest v

-- an object that the collector may load words of: one that lives while a collection marks, or a removed one whose words are there; and not its link, which the removed chain changes
pub record CollectorMeets (z : Sizes) (v : View) (at : Ref) : Type 0 where
  pub pass : IsCollecting v
  pub known : Among at v.refs
  pub in_array : at.index < item_count z
  pub there : ((in_world (after v.front) at.name ≡ true) × ((after v.front).phase ≡ Marking)) ⊎ ((is_removed (after v.front) at.name ≡ true) × (v.collector.clearing ≡ None))

abbrev pub IsNoLink : ItemWord → Type 0
IsNoLink item_word.Next = ⊥
IsNoLink _ = ⊤

-- an item of the removed chain
abbrev pub IsChained : View → ℕ → Type 0
IsChained v i = IsCollecting v × ((r : Ref) × Among r v.collector.chain × (r.index ≡ i))

-- what a seat must know to make this step of the collector
abbrev pub CollectorMay : Sizes → View → CollectorAsk → ℕ → Type 0
CollectorMay z v (collector_ask.Begin expected) word = AtRest v × ((after v.front).phase ≡ Idle) × ((after v.front).removals ≡ [])
    × (expected ≡ gate_word (record { phase = Idle; parity = parity_of v.front; dirty = false; frames = 0 })) × (word ≡ expected)
CollectorMay z v (collector_ask.LoadGate why) word = CollectorGateMay z v why
CollectorMay z v (collector_ask.LoadRoots n) word = IsCollecting v × (v.collector.job ≡ Roots (64 * n)) × (n < row_words z)
CollectorMay z v (collector_ask.LoadStrong l h) word = IsCollecting v × (v.collector.job ≡ Roots (strong_place (sizes_of z) l h)) × (l < z.lanes) × (h < z.strong)
CollectorMay z v (collector_ask.ShadeRoot unit) word = IsCollecting v × NoneAgreed v × (v.collector.job ≢ NoJob) × (v.collector.hand ≡ None) × (has v.collector.found unit ≡ true)
    × (word ≡ (if parity_of v.front then colour_bit else 2 ^ 64 - 1 - colour_bit))
CollectorMay z v (collector_ask.AddHand unit) word = IsCollecting v × (v.collector.hand ≡ Some unit) × NoSlice v × (word ≡ 2 ^ (unit % 64))
CollectorMay z v collector_ask.ClearDirty word = AtRest v × ((after v.front).phase ≡ Marking) × (word ≡ 2 ^ 64 - 1 - 8)
CollectorMay z v (collector_ask.LookRow row n) word = IsCollecting v × NoneAgreed v × (v.collector.job ≡ Look row n) × (row ≤ z.markers) × (n < row_words z)
CollectorMay z v (collector_ask.Commit expected) word = IsCollecting v × NoneAgreed v × ((after v.front).phase ≡ Marking) × (v.collector.job ≡ looked_all (sizes_of z))
    × (expected ≡ gate_word (record { phase = Marking; parity = parity_of v.front; dirty = false; frames = 0 })) × (word ≡ expected)
CollectorMay z v collector_ask.LookOwner word = IsCollecting v × ((after v.front).phase ≡ Gathering) × (v.collector.looking ≡ Fresh) × (v.collector.cursor < item_count z)
CollectorMay z v (collector_ask.LookHead unit) word = IsCollecting v × ((after v.front).phase ≡ Gathering) × (v.collector.looking ≡ Owned unit)
CollectorMay z v collector_ask.Doom word = IsCollecting v × ((of : Ref) × (v.collector.looking ≡ White of)) × (word ≡ head_word (record { life = life.Doomed; colour = colour_of (parity_of v.front) false; polls = 0 }))
CollectorMay z v (collector_ask.Settle budget) word = IsSweeping z v budget × (v.collector.cursor ≡ item_count z) × (word ≡ 2 ^ 64 - 1 - 3)
CollectorMay z v (collector_ask.LoadOf index what) word = ((at : Ref) × CollectorMeets z v at × (at.index ≡ index)) × IsNoLink what
CollectorMay z v (collector_ask.LoadHead i) word = IsChained v i × ((after v.front).phase ≢ Gathering) × (v.collector.clearing ≡ None)
CollectorMay z v (collector_ask.LoadLink i) word = IsChained v i
CollectorMay z v (collector_ask.Append first) word = MayAppend z v first × (word ≡ suc first)
CollectorMay z v (collector_ask.CutUnit behind) word = (front : List Ref) × (rest : List Ref) × IsCollecting v × CutsUnit v behind front rest × (word ≡ place_number (first_item (indexes rest)))
CollectorMay z v (collector_ask.Clear q) word = ((at : Ref) × IsClearable z v at × IsCleared z at.index q) × (word ≡ 0)
CollectorMay z v (collector_ask.LinkBack i to) word = ((at : Ref) × IsLastOut z v at × (at.index ≡ i)) × (word ≡ place_number to)
CollectorMay z v (collector_ask.StoreLife i step) word = ((of : Ref) × Among of v.refs × (of.index ≡ i) × IsNextLife v of step × IsLifeWord v of step word) × (i < item_count z) × ((after v.front).phase ≢ Gathering)
CollectorMay z v (collector_ask.LoadReturn l) word = IsCollecting v × (l < z.lanes)
CollectorMay z v (collector_ask.Release l first expected new) word = MayRelease z v l first expected new × (word ≡ expected)
CollectorMay z v (collector_ask.LoadOwn q) word = IsCollecting v × (counter_pass q ≡ Some Collector)
CollectorMay z v (collector_ask.LoadLeft budget steps) word = AtRest v × ((after v.front).phase ≢ Gathering) × (is_late v.late part.Left ≡ false)
    × (steps ≡ (state_of v.front).collector.steps) × (steps ≤ budget) × (steps < budget → (after v.front).removals ≡ [])
CollectorMay z v (collector_ask.StoreOwn q value) word = IsCollecting v × CollectorCounts v q value × (word ≡ value)
