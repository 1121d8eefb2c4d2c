-- The word of each step, and what the step makes of it: what has to be shown of each ask.
use Rattle.std.specs.Prelude.{◌≡◌, ℕ, ◌+◌, ◌-◌, ◌/◌, ◌%◌, ◌^◌, ◌==◌, Bool, true, false, if◌then◌else◌, [], Option, Some, None, bit_and, bit_or, unwrap_or}
use prog.Atomic.{either}
use Rattle.atomic_table.specs.Table.{Allows}
use Rattle.world_model.specs.Sizes.{Sizes, IsLawful}
use Rattle.world_model.specs.Stays.{parity_of}
use Rattle.word_layout.specs.Values.{gate_word}
use Rattle.word_layout.specs.Places.{place}
use Rattle.heap_rule.specs.Types.{Marking, Gathering, Part, White, Looking, Scanning, Memo, View, MemoLoad, LaneAsk, MarkerAsk, CollectorAsk, Ask}
use Rattle.heap_rule.specs.Types.part
use Rattle.heap_rule.specs.Types.memo_load
use Rattle.heap_rule.specs.Types.lane_ask
use Rattle.heap_rule.specs.Types.marker_ask
use Rattle.heap_rule.specs.Types.collector_ask
use Rattle.heap_rule.specs.Types.ask
use Rattle.heap_rule.specs.Items.{last_item}
use Rattle.heap_rule.specs.Removal.{indexes}
use Rattle.heap_rule.specs.LaneMay.{memo_in}
use Rattle.heap_rule.specs.Views.{marker_in}
use Rattle.heap_rule.specs.Telling.{part_of}
use Rattle.heap_rule.specs.Rule.{Keeps}
use Rattle.heap_rule.specs.Tells.{MayAsk, Tells}

-- ---- what a step makes of its word

abbrev pub Effect : Type 0
Effect = ℕ → ℕ

-- a load; and a store or a swap
abbrev pub leaves : Effect
leaves n = n

abbrev pub puts : ℕ → Effect
puts x n = x

-- sums are taken modulo 2 ^ 64
abbrev pub adds : ℕ → Effect
adds k n = (n + k) % 2 ^ 64

abbrev pub takes : ℕ → Effect
takes k n = (n + (2 ^ 64 - k)) % 2 ^ 64

abbrev pub sets : ℕ → Effect
sets k n = bit_or n k

abbrev pub masks : ℕ → Effect
masks k n = bit_and n k

-- where it is the expected one it becomes this one
abbrev pub exchanges : ℕ → ℕ → Effect
exchanges expected new n = either (n == expected) new n

-- the colour becomes the parity
abbrev pub colours : Bool → ℕ → Effect
colours true k = sets k
colours false k = masks k

-- ---- lanes

-- the head that a memo names, and item 0 where it names none
abbrev pub memo_head : Option Memo → ℕ
memo_head None = 0
memo_head (Some m) = unwrap_or m.owner 0

abbrev pub memo_part : View → ℕ → ℕ → MemoLoad → Part
memo_part v l i memo_load.Owner = part.Owner i
memo_part v l i memo_load.Head = part.Head (memo_head (memo_in v.memos l))
memo_part v l i memo_load.Name = part.NameOf i

abbrev pub lane_part : Sizes → View → ℕ → LaneAsk → Part
lane_part z v l (lane_ask.Shade unit) = part.Head unit
lane_part z v l (lane_ask.SwapCell at slot to) = part.Cell at.index slot
lane_part z v l (lane_ask.SwapPlain at slot value) = part.Cell at.index slot
lane_part z v l (lane_ask.SwapStrong h to) = part.Strong l h
lane_part z v l (lane_ask.LoadCell at slot) = part.Cell at.index slot
lane_part z v l (lane_ask.LoadPlain at slot) = part.Cell at.index slot
lane_part z v l (lane_ask.LoadStrong h) = part.Strong l h
lane_part z v l (lane_ask.AddHand unit) = part.Row z.markers (unit / 64)
lane_part z v l (lane_ask.SetRoot at on) = part.Root (at.index / 64)
lane_part z v l (lane_ask.LoadOf index what) = part_of what index
lane_part z v l (lane_ask.LoadKept q) = q
lane_part z v l (lane_ask.StoreItem q value) = q
lane_part z v l (lane_ask.Link i to) = part.Next i
lane_part z v l (lane_ask.Publish first) = part.Head first
lane_part z v l (lane_ask.TakeReturn asked) = part.ReturnStock l
lane_part z v l (lane_ask.TakeFree count) = part.FreeStock l
lane_part z v l (lane_ask.GiveFree kept) = part.FreeStock l
lane_part z v l (lane_ask.LoadNames asked) = part.NamesMade l
lane_part z v l (lane_ask.LoadOwn q) = q
lane_part z v l (lane_ask.StoreOwn q value) = q
lane_part z v l (lane_ask.FindSerial at count) = part.Serial at.index
lane_part z v l (lane_ask.GiveSerial at serial expected) = part.Serial at.index
lane_part z v l (lane_ask.FirstSerial pair) = part.Serial pair.index
lane_part z v l (lane_ask.LoadMemo pair what) = memo_part v l pair.index what
lane_part z v l (lane_ask.SecondSerial pair) = part.Serial pair.index
lane_part z v l (lane_ask.Prepare i) = part.Head i
lane_part z v l (lane_ask.Loosen i) = part.Owner i
lane_part z v l (lane_ask.CutOff i j) = part.Next j
lane_part z v l (lane_ask.MarkGarbage at) = part.Serial at.index
lane_part z v l (lane_ask.IsValid at) = part.Serial at.index
lane_part z v l _ = part.Gate

abbrev pub lane_effect : View → LaneAsk → ℕ → Effect
lane_effect v lane_ask.Open word = adds word
lane_effect v lane_ask.Close word = takes word
lane_effect v (lane_ask.Shade unit) word = colours (parity_of v.front) word
lane_effect v (lane_ask.SwapCell at slot to) word = puts word
lane_effect v (lane_ask.SwapPlain at slot value) word = puts word
lane_effect v (lane_ask.SwapStrong h to) word = puts word
lane_effect v (lane_ask.AddHand unit) word = sets word
lane_effect v lane_ask.SetDirty word = sets word
lane_effect v (lane_ask.SetRoot at true) word = sets word
lane_effect v (lane_ask.SetRoot at false) word = masks word
lane_effect v (lane_ask.StoreItem q value) word = puts word
lane_effect v (lane_ask.Link i to) word = puts word
lane_effect v (lane_ask.Publish first) word = puts word
lane_effect v (lane_ask.TakeReturn asked) word = puts word
lane_effect v (lane_ask.TakeFree count) word = puts word
lane_effect v (lane_ask.GiveFree kept) word = puts word
lane_effect v (lane_ask.StoreOwn q value) word = puts word
lane_effect v (lane_ask.GiveSerial at serial expected) word = exchanges expected (expected + serial)
lane_effect v (lane_ask.Prepare i) word = puts word
lane_effect v (lane_ask.Loosen i) word = puts word
lane_effect v (lane_ask.CutOff i j) word = puts word
lane_effect v (lane_ask.MarkGarbage at) word = sets word
lane_effect v _ word = leaves

-- ---- markers

-- what was found at the cursor of a marker's scan, and item 0 where nothing was
abbrev pub found_in : Option Scanning → ℕ
found_in None = 0
found_in (Some s) = unwrap_or s.found 0

abbrev pub found_head : View → ℕ → ℕ
found_head v m = found_in (marker_in v.markers m).scan

abbrev pub marker_part : Sizes → View → ℕ → MarkerAsk → Part
marker_part z v m marker_ask.ShadeFound = part.Head (found_head v m)
marker_part z v m (marker_ask.ScanCell i slot) = part.Cell i slot
marker_part z v m (marker_ask.AddRow unit) = part.Row m (unit / 64)
marker_part z v m (marker_ask.TakeRow row n) = part.Row row n
marker_part z v m (marker_ask.LoadRow row n) = part.Row row n
marker_part z v m (marker_ask.StartScan unit) = part.Head unit
marker_part z v m marker_ask.SettleFound = part.Head (found_head v m)
marker_part z v m (marker_ask.LoadOf index what) = part_of what index
marker_part z v m _ = part.Gate

abbrev pub marker_effect : View → MarkerAsk → ℕ → Effect
marker_effect v marker_ask.Open word = adds word
marker_effect v (marker_ask.Close budget reply) word = takes word
marker_effect v marker_ask.ShadeFound word = colours (parity_of v.front) word
marker_effect v (marker_ask.AddRow unit) word = sets word
marker_effect v (marker_ask.TakeRow row n) word = puts word
marker_effect v marker_ask.SetDirty word = sets word
marker_effect v _ word = leaves

-- ---- the collector

-- the item at the cursor where its object is one that a sweep dooms
abbrev pub white_item : Looking → ℕ
white_item (White r) = r.index
white_item _ = 0

-- the link of this item; or of none, the first word of the removed chain
abbrev pub link_part : Option ℕ → Part
link_part None = part.Removed
link_part (Some i) = part.Next i

abbrev pub collector_part : Sizes → View → CollectorAsk → Part
collector_part z v (collector_ask.LoadRoots n) = part.Root n
collector_part z v (collector_ask.LoadStrong l h) = part.Strong l h
collector_part z v (collector_ask.ShadeRoot unit) = part.Head unit
collector_part z v (collector_ask.AddHand unit) = part.Row z.markers (unit / 64)
collector_part z v (collector_ask.LookRow row n) = part.Row row n
collector_part z v collector_ask.LookOwner = part.Owner v.collector.cursor
collector_part z v (collector_ask.LookHead unit) = part.Head unit
collector_part z v collector_ask.Doom = part.Head (white_item v.collector.looking)
collector_part z v (collector_ask.LoadOf index what) = part_of what index
collector_part z v (collector_ask.LoadHead i) = part.Head i
collector_part z v (collector_ask.LoadLink i) = part.Next i
collector_part z v (collector_ask.Append first) = link_part (last_item (indexes v.collector.chain))
collector_part z v (collector_ask.CutUnit behind) = link_part behind
collector_part z v (collector_ask.Clear q) = q
collector_part z v (collector_ask.LinkBack i to) = part.Next i
collector_part z v (collector_ask.StoreLife i step) = part.Head i
collector_part z v (collector_ask.LoadReturn l) = part.ReturnStock l
collector_part z v (collector_ask.Release l first expected new) = part.ReturnStock l
collector_part z v (collector_ask.LoadOwn q) = q
collector_part z v (collector_ask.LoadLeft budget steps) = part.Left
collector_part z v (collector_ask.StoreOwn q value) = q
collector_part z v _ = part.Gate

-- the gate where a collection has started, and where it has committed
abbrev pub started_gate : View → ℕ
started_gate v = gate_word (record { phase = Marking; parity = if parity_of v.front then false else true; dirty = false; frames = 0 })

abbrev pub committed_gate : View → ℕ
committed_gate v = gate_word (record { phase = Gathering; parity = parity_of v.front; dirty = false; frames = 0 })

abbrev pub collector_effect : View → CollectorAsk → ℕ → Effect
collector_effect v (collector_ask.Begin expected) word = exchanges expected (started_gate v)
collector_effect v (collector_ask.ShadeRoot unit) word = colours (parity_of v.front) word
collector_effect v (collector_ask.AddHand unit) word = sets word
collector_effect v collector_ask.ClearDirty word = masks word
collector_effect v (collector_ask.Commit expected) word = exchanges expected (committed_gate v)
collector_effect v collector_ask.Doom word = puts word
collector_effect v (collector_ask.Settle budget) word = masks word
collector_effect v (collector_ask.Append first) word = puts word
collector_effect v (collector_ask.CutUnit behind) word = puts word
collector_effect v (collector_ask.Clear q) word = puts word
collector_effect v (collector_ask.LinkBack i to) word = puts word
collector_effect v (collector_ask.StoreLife i step) word = puts word
collector_effect v (collector_ask.Release l first expected new) word = exchanges expected new
collector_effect v (collector_ask.StoreOwn q value) word = puts word
collector_effect v _ word = leaves

-- ---- all of it

-- the word of a step, and what the step makes of it
abbrev pub ask_part : Sizes → View → Ask → Part
ask_part z v (ask.Lane l a) = lane_part z v l a
ask_part z v (ask.Marker m a) = marker_part z v m a
ask_part z v (ask.Collector a) = collector_part z v a

abbrev pub ask_effect : View → Ask → ℕ → Effect
ask_effect v (ask.Lane l a) word = lane_effect v a word
ask_effect v (ask.Marker m a) word = marker_effect v a word
ask_effect v (ask.Collector a) word = collector_effect v a word

-- In a lawful shape the step keeps the rule, and tells what the ask says, whatever other seats do meanwhile
abbrev pub Keeping : Sizes → Ask → Type 0
Keeping z a = IsLawful z → (id word : ℕ) (v : View) → MayAsk z v a word
    → Allows (Keeps z) 0 id (v, []) (place z (ask_part z v a)) (ask_effect v a word) (λ found me. (me.1 ≡ []) × Tells z a word v found me.0)
