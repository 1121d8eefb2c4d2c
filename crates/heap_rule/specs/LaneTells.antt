-- What a step of a lane tells its seat: what was found, the entries that it adds, and what the view becomes.
use Rattle.std.specs.Prelude.{◌≡◌, ℕ, ◌+◌, ◌-◌, ◌%◌, ◌==◌, ◌&&◌, nat_lt, Bool, true, false, not, if◌then◌else◌, List, [], ◌∷◌, ◌++◌, length, take, drop, Option, Some, None, ⊤}
use Rattle.world_model.specs.Sizes.{Sizes}
use Rattle.world_model.specs.NameLists.{names_from}
use Rattle.world_model.specs.World.{in_world, made, free}
use Rattle.world_model.specs.State.{IsMarked}
use Rattle.world_model.specs.Histories.{state_of, after}
use Rattle.world_model.specs.Follows.{entry}
use Rattle.word_layout.specs.Values.{ref_word, IsRef, stock_word, place_number}
use Rattle.mark_core.specs.Changes.{has}
use Rattle.heap_rule.specs.Types.{Name, Ref, Weak, Kind, Marking, Phase, Lane, Entry, Gate, Head, Part, Memo, View, LaneGate, MemoLoad, LaneAsk}
use Rattle.heap_rule.specs.Types.act
use Rattle.heap_rule.specs.Types.part
use Rattle.heap_rule.specs.Types.lane_gate
use Rattle.heap_rule.specs.Types.memo_load
use Rattle.heap_rule.specs.Types.lane_ask
use Rattle.heap_rule.specs.Items.{first_item}
use Rattle.heap_rule.specs.Pairs.{low_half}
use Rattle.heap_rule.specs.Views.{lane_in, known_but, known_links, is_late, memos_but}
use Rattle.heap_rule.specs.LaneMay.{LaneCounts, AreFilled, memo_in}
use Rattle.heap_rule.specs.Telling.{Adds, with_lane, with_collector, learns, falls_behind, catches_up, name_in, knows, InArray, Gave, SawGate, SawHead, is_marked_head, is_live_head, is_bit, IsTheRef, SeenFor, KnownSays, SerialSays, WordSays, item_behind, AllInArray, taken_words}

-- ---- views

-- the lane has marked a unit, which it has in hand now
abbrev pub takes_up : ℕ → ℕ → View → View
takes_up l u v = with_lane l (λ d. record d { hand = Some u }) v

-- a pass of the seat has set the dirty bit
abbrev pub unclean : View → View
unclean v = with_collector (λ d. record d { clean = false }) v

-- the references to the members of a unit, at these items
abbrev pub refs_at : List ℕ → List Name → List Ref
refs_at (i ∷ is) (n ∷ ns) = record { index = i; name = n } ∷ refs_at is ns
refs_at _ _ = []

-- ---- the gate

-- a unit is not taken apart while a collection marks
abbrev pub refuses : Phase → ℕ → Ref → List Entry
refuses Marking l at = entry (Lane l) (act.NoDissolve at.name) ∷ []
refuses _ l at = []

abbrev pub lane_gate_entries : ℕ → Phase → LaneGate → List Entry
lane_gate_entries l phase lane_gate.Look = []
lane_gate_entries l phase (lane_gate.Beyond pair) = entry (Lane l) (act.Resolve pair None) ∷ []
lane_gate_entries l phase (lane_gate.Refuse at) = refuses phase l at
lane_gate_entries l phase (lane_gate.Apart at count) = entry (Lane l) (act.Dissolve at.name count) ∷ []

-- ---- making

-- what an own word is: a link of a chain as the view has it, and a counter that is not behind as the history has it
abbrev pub LinkSays : View → ℕ → Part → ℕ → Type 0
LinkSays v l (part.Next i) found = has (lane_in v.lanes l).free i ≡ true → found ≡ place_number (item_behind (lane_in v.lanes l).free i)
LinkSays v l q found = ⊤

abbrev pub OwnSays : View → ℕ → Part → ℕ → Type 0
OwnSays v l (part.FreeStock m) found = found ≡ stock_word (record { first = first_item (lane_in v.lanes l).free; count = length (lane_in v.lanes l).free })
OwnSays v l q found = is_late v.late q ≡ false → LaneCounts v l q found

-- so many objects more than the lane has names left, or than it has items, are refused
abbrev pub lacks_names : ℕ → ℕ → ℕ → List Entry
lacks_names l asked left = if nat_lt left asked then entry (Lane l) (act.NamesSpent asked left) ∷ [] else []

abbrev pub lacks_room : ℕ → ℕ → ℕ → List Entry
lacks_room l asked rest = if nat_lt rest asked then entry (Lane l) (act.Full asked rest) ∷ [] else []

-- ---- weak pointers

-- the pair of an object with the serial in this word
abbrev pub pair_in : Ref → ℕ → Weak
pair_in at word = record { index = at.index; serial = low_half word }

-- an object that has a serial has its pair; else, with all serials of the lane drawn, it gets none
abbrev pub finds_serial : Sizes → ℕ → Ref → ℕ → ℕ → List Entry
finds_serial z l at count found =
    if low_half found == 0 then (if count == z.serials then entry (Lane l) (act.NoSerial at.name count) ∷ [] else []) else entry (Lane l) (act.WeakOf at.name (pair_in at found)) ∷ []

-- the exchange wins, or finds the serial of another, or finds that the object was marked as garbage meanwhile
abbrev pub gives_serial : ℕ → Ref → ℕ → ℕ → ℕ → List Entry
gives_serial l at serial expected found =
    if found == expected then entry (Lane l) (act.WeakOf at.name (record { index = at.index; serial = serial })) ∷ []
    else if low_half found == 0 then [] else entry (Lane l) (act.WeakOf at.name (pair_in at found)) ∷ []

-- the word is that of the pair's serial, and not of garbage; serial 0 is none
abbrev pub matches : Weak → ℕ → Bool
matches pair found = not (pair.serial == 0) && (found == pair.serial)

abbrev pub first_memo : ℕ → Weak → Memo
first_memo l pair = record { lane = l; pair = pair; owner = None; lives = None; name = None }

-- the memo of the lane is this one now
abbrev pub remembers : Memo → View → View
remembers m v = record v { memos = m ∷ memos_but m.lane v.memos }

-- the owner names a unit; or none, where the words of the object are cleared, which is a no
abbrev pub with_owner : ℕ → Memo → Memo
with_owner found m = if found == 0 then record m { lives = Some false } else record m { owner = Some (found - 1) }

-- the object of a memo, where all loads say that it lives
abbrev pub remembered : Bool → Option Bool → Option Ref → Option Ref
remembered true (Some true) name = name
remembered _ _ name = None

-- what a load for a memo found
abbrev pub Remembers : List Entry → MemoLoad → ℕ → Memo → Memo → Type 0
Remembers before memo_load.Owner found m new = new ≡ with_owner found m
Remembers before memo_load.Head found m new = (h : Head) × SawHead found h × (new ≡ record m { lives = Some (is_live_head before h) })
Remembers before memo_load.Name found m new = (got : Option Ref) × IsRef got × (found ≡ ref_word got) × (new ≡ record m { name = got })

-- ---- all of it

-- what a step of this lane tells: before is the history that it stands behind, found what the word had
abbrev pub LaneTells : Sizes → ℕ → LaneAsk → ℕ → View → List Entry → ℕ → View → Type 0
LaneTells z l lane_ask.Open word v before found w = (g : Gate) × SawGate before found g × Adds z v before (entry (Lane l) (act.FrameOpen g.phase) ∷ []) v w
LaneTells z l lane_ask.Close word v before found w = Adds z v before (entry (Lane l) act.FrameClose ∷ []) (record v { memos = memos_but l v.memos }) w
LaneTells z l (lane_ask.Shade unit) word v before found w = (of : Ref) × (h : Head) × IsTheRef z v (in_world (after before)) unit of × SawHead found h × IsMarked (state_of w.front) of.name
    × Adds z v before (if is_marked_head before h then [] else entry (Lane l) (act.Kept of.name) ∷ []) (if is_marked_head before h then v else takes_up l unit v) w
LaneTells z l (lane_ask.SwapCell at slot to) word v before found w = (got : Option Ref) × Gave z found got
    × Adds z v before (entry (Lane l) (act.WriteRef at.name slot (name_in to) (name_in got)) ∷ []) (knows got v) w
LaneTells z l (lane_ask.SwapPlain at slot value) word v before found w = Adds z v before (entry (Lane l) (act.WritePlain at.name slot value found) ∷ []) v w
LaneTells z l (lane_ask.SwapStrong h to) word v before found w = (got : Option Ref) × Gave z found got × Adds z v before (entry (Lane l) (act.SetStrong h (name_in to) (name_in got)) ∷ []) (knows got v) w
LaneTells z l (lane_ask.LoadCell at slot) word v before found w = (got : Option Ref) × Gave z found got × Adds z v before (entry (Lane l) (act.ReadRef at.name slot (name_in got)) ∷ []) (knows got v) w
LaneTells z l (lane_ask.LoadPlain at slot) word v before found w = Adds z v before (entry (Lane l) (act.ReadPlain at.name slot found) ∷ []) v w
LaneTells z l (lane_ask.LoadStrong h) word v before found w = (got : Option Ref) × Gave z found got × Adds z v before (entry (Lane l) (act.GetStrong h (name_in got)) ∷ []) (knows got v) w
LaneTells z l (lane_ask.AddHand unit) word v before found w = Adds z v before [] (with_lane l (λ d. record d { hand = None; owes = true }) v) w
LaneTells z l lane_ask.SetDirty word v before found w = Adds z v before [] (unclean (with_lane l (λ d. record d { owes = false }) v)) w
LaneTells z l (lane_ask.LoadGate why) word v before found w = (g : Gate) × SawGate before found g × Adds z v before (lane_gate_entries l g.phase why) v w
LaneTells z l (lane_ask.SetRoot at on) word v before found w = Adds z v before (entry (Lane l) (act.Root at.name on (is_bit found (at.index % 64))) ∷ []) v w
LaneTells z l (lane_ask.LoadOf index what) word v before found w = (at : Ref) × (more : List Ref) × IsTheRef z v (in_world (after before)) index at × SeenFor what v before
    × WordSays z (after before) at what found more × Adds z v before [] (record v { refs = more ++ v.refs }) w
LaneTells z l (lane_ask.LoadKept q) word v before found w = KnownSays v (Lane l) q found × LinkSays v l q found × Adds z v before [] (learns (Lane l) q found v) w
LaneTells z l (lane_ask.StoreItem q value) word v before found w = Adds z v before [] (learns (Lane l) q value v) w
LaneTells z l (lane_ask.Link i to) word v before found w = Adds z v before [] (learns (Lane l) (part.Next i) (place_number to) v) w
LaneTells z l (lane_ask.Publish first) word v before found w = let d = lane_in v.lanes l in let count = made (after v.front) l + 1 in
    (kinds : List Kind) × AreFilled v l first d.making count kinds × Adds z v before (entry (Lane l) (act.Make kinds count) ∷ [])
    (falls_behind (part.NamesMade l) (with_lane l (λ d. record d { making = [] }) (record v { refs = refs_at d.making (names_from l count kinds) ++ v.refs; known = known_but d.making v.known }))) w
LaneTells z l (lane_ask.TakeReturn asked) word v before found w = let d = lane_in v.lanes l in
    (chain : List ℕ) × AllInArray z chain × (found ≡ stock_word (record { first = first_item chain; count = length chain })) × (free z (after before) l ≡ length d.free + (length d.making + length chain))
    × Adds z v before (lacks_room l asked (free z (after before) l)) (with_lane l (λ d. record d { making = d.making ++ chain }) (record v { known = taken_words l 0 chain ++ v.known })) w
LaneTells z l (lane_ask.TakeFree count) word v before found w = let d = lane_in v.lanes l in
    Adds z v before [] (with_lane l (λ d. record d { free = drop count d.free; making = d.making ++ take count d.free })
    (record (learns (Lane l) (part.FreeStock l) word v) { known = taken_words l (place_number (first_item (drop count d.free))) (take count d.free) ++ (learns (Lane l) (part.FreeStock l) word v).known })) w
LaneTells z l (lane_ask.GiveFree kept) word v before found w = let d = lane_in v.lanes l in
    Adds z v before [] (with_lane l (λ d. record d { free = drop kept d.making ++ d.free; making = take kept d.making })
    (learns (Lane l) (part.FreeStock l) word (record v { known = known_links (drop kept d.making) v.known }))) w
LaneTells z l (lane_ask.LoadNames asked) word v before found w = (found ≡ made (after v.front) l) × Adds z v before (lacks_names l asked (z.names - found)) (learns (Lane l) (part.NamesMade l) found v) w
LaneTells z l (lane_ask.LoadOwn q) word v before found w = KnownSays v (Lane l) q found × OwnSays v l q found × Adds z v before [] (learns (Lane l) q found v) w
LaneTells z l (lane_ask.StoreOwn q value) word v before found w = Adds z v before [] (catches_up q (learns (Lane l) q value v)) w
LaneTells z l (lane_ask.FindSerial at count) word v before found w = SerialSays (after before) at found × Adds z v before (finds_serial z l at count found) v w
LaneTells z l (lane_ask.GiveSerial at serial expected) word v before found w = SerialSays (after before) at found
    × Adds z v before (gives_serial l at serial expected found) (if found == expected then falls_behind (part.SerialsMade l) v else v) w
LaneTells z l (lane_ask.FirstSerial pair) word v before found w =
    Adds z v before (if matches pair found then [] else entry (Lane l) (act.Resolve pair None) ∷ []) (if matches pair found then remembers (first_memo l pair) v else v) w
LaneTells z l (lane_ask.LoadMemo pair what) word v before found w = (m : Memo) × (new : Memo) × (memo_in v.memos l ≡ Some m) × Remembers before what found m new × Adds z v before [] (remembers new v) w
LaneTells z l (lane_ask.SecondSerial pair) word v before found w = (m : Memo) × (memo_in v.memos l ≡ Some m) × InArray z (remembered (matches pair found) m.lives m.name)
    × Adds z v before (entry (Lane l) (act.Resolve pair (name_in (remembered (matches pair found) m.lives m.name))) ∷ [])
    (knows (remembered (matches pair found) m.lives m.name) (record v { memos = memos_but l v.memos })) w
LaneTells z l (lane_ask.Prepare i) word v before found w = Adds z v before [] (with_lane l (λ d. record d { prepared = Some i }) v) w
LaneTells z l (lane_ask.Loosen i) word v before found w = (of : Ref) × IsTheRef z v (in_world (after before)) i of
    × Adds z v before (entry (Lane l) (act.Loose of.name) ∷ []) (with_lane l (λ d. record d { prepared = None; loose = Some i }) v) w
LaneTells z l (lane_ask.CutOff i j) word v before found w = Adds z v before [] (with_lane l (λ d. record d { loose = None }) v) w
LaneTells z l (lane_ask.MarkGarbage at) word v before found w = SerialSays (after before) at found × Adds z v before (entry (Lane l) (act.MarkGarbage at.name (is_bit found 32)) ∷ []) v w
LaneTells z l (lane_ask.IsValid at) word v before found w = SerialSays (after before) at found × Adds z v before (entry (Lane l) (act.IsValid at.name (not (is_bit found 32))) ∷ []) v w
