-- What a step of the collector tells its seat.
use Rattle.std.specs.Prelude.{◌≡◌, ◌≢◌, ℕ, zero, suc, ◌+◌, ◌-◌, ◌*◌, ◌==◌, ◌&&◌, ◌||◌, ◌<◌, nat_le, min, not, Bool, true, false, if◌then◌else◌, List, [], ◌∷◌, ◌++◌, length, Option, Some, None, is_none, ⊤}
use Rattle.std.specs.List.{find}
use Rattle.world_model.specs.Sizes.{Sizes, item_count}
use Rattle.world_model.specs.NameLists as names
use Rattle.world_model.specs.NameLists.{begins_with}
use Rattle.world_model.specs.World.{World, Removal, in_world}
use Rattle.world_model.specs.Histories.{state_of, after}
use Rattle.world_model.specs.Follows.{is_removed, entry, RootsMarked}
use Rattle.word_layout.specs.Values.{IsStock, stock_word, place_number}
use Rattle.word_layout.specs.Places.{row_words}
use Rattle.mark_core.specs.Machine.{strong_place, root_places}
use Rattle.mark_core.specs.Steps.{first_look, next_word}
use Rattle.heap_rule.specs.Types.{Name, Ref, Phase, Idle, Marking, Gathering, Collector, Begin, Commit, SweepStop, Entry, Gate, Head, Life, Stock, Part, Job, NoJob, Roots, Fresh, Owned, White, CollectorView, View, LifeStep, CollectorGate, CollectorAsk}
use Rattle.heap_rule.specs.Types.act
use Rattle.heap_rule.specs.Types.begin
use Rattle.heap_rule.specs.Types.commit
use Rattle.heap_rule.specs.Types.sweep
use Rattle.heap_rule.specs.Types.purge
use Rattle.heap_rule.specs.Types.life
use Rattle.heap_rule.specs.Types.part
use Rattle.heap_rule.specs.Types.life_step
use Rattle.heap_rule.specs.Types.collector_gate
use Rattle.heap_rule.specs.Types.collector_ask
use Rattle.heap_rule.specs.Units.{sizes_of}
use Rattle.heap_rule.specs.Items.{first_item}
use Rattle.heap_rule.specs.Removal.{life_of, indexes, names_of, Each}
use Rattle.heap_rule.specs.Views.{Absent, Among, is_late, known_but}
use Rattle.heap_rule.specs.MarkerTells.{IsUnitOf, is_empty}
use Rattle.heap_rule.specs.CollectorMay.{left_now, removed_unit, IsNextReleased, CutsUnit, CollectorCounts}
use Rattle.heap_rule.specs.Telling.{Adds, with_collector, learns, falls_behind, catches_up, without, ref_list, Gave, AllInArray, SawGate, SawHead, is_marked_head, is_live, is_bit, IsTheRef, SeenFor, KnownSays, WordSays, item_behind}

-- ---- the gate

abbrev pub begun : Bool → ℕ → Begin
begun true frames = begin.Started
begun false frames = begin.Frames frames

abbrev pub commits : Bool → ℕ → Commit
commits true frames = commit.Done
commits false zero = commit.Stores
commits false (suc n) = commit.Frames (suc n)

-- a sweep's answer, with the objects that it found; it looked at the items that the history has not counted
abbrev pub sweeps : View → List Entry → ℕ → SweepStop → List Entry
sweeps v before budget how = entry Collector (act.Sweep budget (record { looked = v.collector.cursor - (after before).swept; found = length v.collector.sweeping; stop = how }) v.collector.sweeping) ∷ []

-- what stops a start, and what else the phase stops
abbrev pub stops_begin : Phase → ℕ → List Entry
stops_begin Idle zero = []
stops_begin Idle (suc n) = entry Collector (act.BeginGc (begin.Purging (suc n))) ∷ []
stops_begin phase left = entry Collector (act.BeginGc (begin.Running phase)) ∷ []

abbrev pub stops_commit : Phase → List Entry
stops_commit Marking = []
stops_commit phase = entry Collector (act.CommitGc (commit.NotMarking phase)) ∷ []

abbrev pub stops_sweep : Phase → ℕ → List Entry
stops_sweep Gathering budget = []
stops_sweep phase budget = entry Collector (act.Sweep budget (record { looked = 0; found = 0; stop = sweep.NotGathering phase }) []) ∷ []

abbrev pub stops_purge : Phase → ℕ → List Entry
stops_purge Gathering budget = entry Collector (act.PurgeGc budget purge.Gathering) ∷ []
stops_purge phase budget = []

abbrev pub collector_gate_entries : View → List Entry → Phase → CollectorGate → List Entry
collector_gate_entries v before phase collector_gate.Look = []
collector_gate_entries v before phase (collector_gate.Begin left) = stops_begin phase left
collector_gate_entries v before phase collector_gate.Commit = stops_commit phase
collector_gate_entries v before phase (collector_gate.Sweep budget) = stops_sweep phase budget
collector_gate_entries v before phase (collector_gate.SweepMore budget) = sweeps v before budget sweep.More
collector_gate_entries v before phase (collector_gate.Purge budget) = stops_purge phase budget

-- a sweep has told what it found: cursor and number of what is left are behind
abbrev pub told_sweep : View → View
told_sweep v = falls_behind part.Cursor (falls_behind part.Left (with_collector (λ d. record d { sweeping = [] }) v))

abbrev pub collector_gate_view : View → CollectorGate → View
collector_gate_view v (collector_gate.SweepMore budget) = told_sweep v
collector_gate_view v why = v

-- ---- the root set

-- the job of going over the root set ends when all places are loaded, and hand and found are empty
abbrev pub roots_over : Sizes → Job → Option ℕ → List ℕ → Bool
roots_over z (Roots p) hand found = nat_le (root_places (sizes_of z)) p && (is_none hand && is_empty found)
roots_over z _ hand found = false

abbrev pub goes_over : Sizes → CollectorView → CollectorView
goes_over z d = record d { job = if roots_over z d.job d.hand d.found then NoJob else d.job }

abbrev pub over_roots : Sizes → (CollectorView → CollectorView) → View → View
over_roots z change v = with_collector (λ d. goes_over z (change d)) v

-- when the job ends each root unit is marked
abbrev pub EndsMarked : View → View → Type 0
EndsMarked v w = v.collector.job ≢ NoJob → w.collector.job ≡ NoJob → RootsMarked (state_of w.front)

-- the set ones of the first n bits of a word, from this number on, in rising order
abbrev pub set_bits : ℕ → ℕ → ℕ → List ℕ
set_bits word from zero = []
set_bits word from (suc n) = set_bits word from n ++ (if is_bit word n then (from + n) ∷ [] else [])

-- the first members of the units of these objects, which live
abbrev pub AreUnitsOf : Sizes → World → List Ref → List Ref → Type 0
AreUnitsOf z w [] [] = ⊤
AreUnitsOf z w (r ∷ rs) (f ∷ fs) = IsUnitOf z w r.name f.index f × AreUnitsOf z w rs fs
AreUnitsOf z w _ _ = ⊥

-- ---- the commit

-- an exchange that finds a dirty gate that its seat has cleared, and not set since, tells of another seat
abbrev pub StoresOf : Sizes → View → Bool → ℕ → Type 0
StoresOf z v won frames = won ≡ false → frames ≡ 0 → v.collector.clean ≡ true → Absent z v.passes

-- ---- the sweep

-- a head that the sweep loads: of a removed unit that no sweep has met; of one that a sweep has met
abbrev pub is_white_head : List Entry → Head → Bool
is_white_head before h = is_live h.life && not (is_marked_head before h)

abbrev pub is_doomed : Life → Bool
is_doomed life.Doomed = true
is_doomed _ = false

-- the sweep passes an item
abbrev pub passes : View → View
passes v = with_collector (λ d. record d { cursor = suc d.cursor; looking = Fresh }) v

-- it finds the object of the item
abbrev pub finds : Name → View → View
finds n v = passes (with_collector (λ d. record d { sweeping = d.sweeping ++ n ∷ [] }) v)

-- the item at the cursor is that of a removed object that is not found yet
abbrev pub IsMet : Sizes → View → List Entry → Ref → Type 0
IsMet z v before r = (r.index ≡ v.collector.cursor) × (r.index < item_count z) × (is_removed (after before) r.name ≡ true) × (names.has ((after before).found ++ v.collector.sweeping) r.name ≡ false)

-- what the head of the unit says of the item at the cursor: that it is removed, the first member of its unit or another, or that it is not
abbrev pub HeadSaysBy : (first removed : Bool) → Sizes → View → List Entry → View → Type 0
HeadSaysBy true removed z v before u = (r : Ref) × IsMet z v before r × (u ≡ with_collector (λ d. record d { looking = White r }) (record v { refs = r ∷ v.refs }))
HeadSaysBy false true z v before u = (r : Ref) × IsMet z v before r × (u ≡ finds r.name (record v { refs = r ∷ v.refs }))
HeadSaysBy false false z v before u = u ≡ passes v

abbrev pub HeadSays : Sizes → View → List Entry → ℕ → Head → View → Type 0
HeadSays z v before unit h u = HeadSaysBy (is_white_head before h && (unit == v.collector.cursor)) (is_white_head before h || is_doomed h.life) z v before u

-- the owner at the cursor names a unit, or none, and then the sweep passes the item
abbrev pub OwnerSays : Sizes → View → ℕ → View → Type 0
OwnerSays z v zero u = u ≡ passes v
OwnerSays z v (suc unit) u = (unit < item_count z) × (u ≡ with_collector (λ d. record d { looking = Owned unit }) v)

-- ---- destruction

abbrev pub life_entries : Name → LifeStep → List Entry
life_entries of life_step.Begin = entry Collector (act.Begun of) ∷ []
life_entries of (life_step.Ask poll answer) = entry Collector (act.Asked of poll answer) ∷ []
life_entries of life_step.Finish = entry Collector (act.Finished of) ∷ []

-- an object that is asked moves the place of the polls
abbrev pub life_view : LifeStep → View → View
life_view (life_step.Ask poll answer) v = falls_behind part.Polling v
life_view _ v = v

-- a counter that is not behind is as the history has it; and the first word of the removed chain is as the view has it, which has the objects that are left but while it is behind
abbrev pub CountSays : View → Part → ℕ → Type 0
CountSays v part.Removed found = (found ≡ place_number (first_item (indexes v.collector.chain))) × (is_late v.late part.Removed ≡ false → names_of v.collector.chain ≡ left_now v)
CountSays v q found = is_late v.late q ≡ false → CollectorCounts v q found

-- a link of the removed chain is as the view has it
abbrev pub ChainSays : View → ℕ → ℕ → Type 0
ChainSays v i found = found ≡ place_number (item_behind (indexes v.collector.chain) i)

-- the head of a removed object that is found: how far its destruction is, and its polls
pub record LifeSays (w : World) (v : View) (found : ℕ) (at : Ref) (h : Head) : Type 0 where
  pub head : SawHead found h
  pub removal : Removal
  pub is : find (λ q. names.same_name at.name q.name) w.removals ≡ Some removal
  pub life_is : h.life ≡ life_of removal.stage (begins_with at.name (removed_unit v at.name)) true
  pub polls_are : h.polls ≡ removal.polls

-- an object is there: it lives, or it is removed
abbrev pub is_there : World → Name → Bool
is_there w n = in_world w n || is_removed w n

-- an exchange that loses finds the stock empty, which it then knows
abbrev pub LosesTo : Bool → ℕ → Type 0
LosesTo true found = ⊤
LosesTo false found = found ≡ 0

abbrev pub loses : ℕ → View → View
loses l v = with_collector (λ d. record d { returned = Some (record { lane = l; word = 0 }) }) v

-- ---- all of it

-- what a step of the collector tells
abbrev pub CollectorTells : Sizes → CollectorAsk → ℕ → View → List Entry → ℕ → View → Type 0
CollectorTells z (collector_ask.Begin expected) word v before found w = (g : Gate) × SawGate before found g
    × Adds z v before (entry Collector (act.BeginGc (begun (found == expected) g.frames)) ∷ []) (if found == expected then with_collector (λ d. record d { job = Roots 0 }) v else v) w
CollectorTells z (collector_ask.LoadGate why) word v before found w = (g : Gate) × SawGate before found g × Adds z v before (collector_gate_entries v before g.phase why) (collector_gate_view v why) w
CollectorTells z (collector_ask.LoadRoots n) word v before found w = (objects : List Ref) × (firsts : List Ref) × (indexes objects ≡ set_bits found (64 * n) 64)
    × Each (λ r. (after before).rooted r.name ≡ true) objects × AreUnitsOf z (after before) objects firsts × EndsMarked v w
    × Adds z v before [] (over_roots z (λ d. record d { job = Roots (min (64 * (n + 1)) (item_count z)); found = indexes firsts ++ d.found }) (record v { refs = firsts ++ (objects ++ v.refs) })) w
CollectorTells z (collector_ask.LoadStrong l h) word v before found w = (got : Option Ref) × (firsts : List Ref) × Gave z found got × AreUnitsOf z (after before) (ref_list got) firsts × EndsMarked v w
    × Adds z v before [] (over_roots z (λ d. record d { job = Roots (strong_place (sizes_of z) l h + 1); found = indexes firsts ++ d.found }) (record v { refs = firsts ++ (ref_list got ++ v.refs) })) w
CollectorTells z (collector_ask.ShadeRoot unit) word v before found w = (of : Name) × (first : Ref) × (h : Head) × IsUnitOf z (after before) of unit first × SawHead found h × EndsMarked v w
    × Adds z v before (if is_marked_head before h then [] else entry Collector (act.Kept first.name) ∷ [])
    (over_roots z (λ d. record d { hand = if is_marked_head before h then d.hand else Some unit; found = without unit d.found }) v) w
CollectorTells z (collector_ask.AddHand unit) word v before found w = EndsMarked v w × Adds z v before [] (over_roots z (λ d. record d { hand = None }) v) w
CollectorTells z collector_ask.ClearDirty word v before found w = Adds z v before [] (with_collector (λ d. record d { job = first_look (sizes_of z); clean = true }) v) w
CollectorTells z (collector_ask.LookRow row n) word v before found w =
    Adds z v before (if found == 0 then [] else entry Collector (act.CommitGc (commit.Unfinished (row * row_words z + n) found)) ∷ [])
    (with_collector (λ d. record d { job = if found == 0 then next_word (sizes_of z) row n else NoJob }) v) w
CollectorTells z (collector_ask.Commit expected) word v before found w = (g : Gate) × SawGate before found g × StoresOf z v (found == expected) g.frames
    × Adds z v before (entry Collector (act.CommitGc (commits (found == expected) g.frames)) ∷ [])
    (if found == expected then falls_behind part.Cursor (with_collector (λ d. record d { job = NoJob; cursor = 0 }) v) else with_collector (λ d. record d { job = NoJob }) v) w
CollectorTells z collector_ask.LookOwner word v before found w = (u : View) × OwnerSays z v found u × Adds z v before [] u w
CollectorTells z (collector_ask.LookHead unit) word v before found w = (h : Head) × (u : View) × SawHead found h × HeadSays z v before unit h u × Adds z v before [] u w
CollectorTells z collector_ask.Doom word v before found w = (of : Ref) × (v.collector.looking ≡ White of)
    × Adds z v before [] (falls_behind part.Removed (falls_behind part.Polling (finds of.name (learns Collector (part.Head of.index) word v)))) w
CollectorTells z (collector_ask.Settle budget) word v before found w = Adds z v before (sweeps v before budget sweep.Settled) (falls_behind part.Polling (told_sweep v)) w
CollectorTells z (collector_ask.LoadOf index what) word v before found w = (at : Ref) × (more : List Ref) × IsTheRef z v (is_there (after before)) index at × SeenFor what v before
    × WordSays z (after before) at what found more × Adds z v before [] (record v { refs = more ++ v.refs }) w
CollectorTells z (collector_ask.LoadHead i) word v before found w = (at : Ref) × (h : Head) × Among at v.collector.chain × (at.index ≡ i) × LifeSays (after before) v found at h × Adds z v before [] (learns Collector (part.Head i) found v) w
CollectorTells z (collector_ask.LoadLink i) word v before found w = ChainSays v i found × Adds z v before [] (learns Collector (part.Next i) found v) w
CollectorTells z (collector_ask.Append first) word v before found w = (of : Name) × (members : List Ref) × (names_of members ≡ removed_unit v of) × AllInArray z (indexes members) × (first_item (indexes members) ≡ Some first)
    × (names_of v.collector.chain ++ names_of members ≡ left_now v)
    × Adds z v before [] (falls_behind part.Polling (catches_up part.Removed (with_collector (λ d. record d { chain = d.chain ++ members }) (record v { refs = members ++ v.refs })))) w
CollectorTells z (collector_ask.CutUnit behind) word v before found w = (front : List Ref) × (rest : List Ref) × CutsUnit v behind front rest
    × Adds z v before [] (falls_behind part.Removed (with_collector (λ d. record d { chain = front ++ rest }) v)) w
CollectorTells z (collector_ask.Clear q) word v before found w = (of : Name) × IsNextReleased v of × Adds z v before [] (with_collector (λ d. record d { clearing = Some of }) (learns Collector q 0 v)) w
CollectorTells z (collector_ask.LinkBack i to) word v before found w = Adds z v before [] (learns Collector (part.Next i) (place_number to) v) w
CollectorTells z (collector_ask.StoreLife i step) word v before found w = (of : Ref) × IsTheRef z v (is_removed (after before)) i of
    × Adds z v before (life_entries of.name step) (life_view step (learns Collector (part.Head i) word v)) w
CollectorTells z (collector_ask.LoadReturn l) word v before found w = (s : Stock) × IsStock s × (found ≡ stock_word s)
    × Adds z v before [] (with_collector (λ d. record d { returned = Some (record { lane = l; word = found }) }) v) w
CollectorTells z (collector_ask.Release l first expected new) word v before found w = (of : Name) × (members : List Ref) × IsNextReleased v of × (names_of members ≡ removed_unit v of) × LosesTo (found == expected) found
    × Adds z v before (if found == expected then entry Collector (act.Released of) ∷ [] else [])
    (if found == expected
    then catches_up part.Removed (falls_behind part.Left (falls_behind part.Polling (with_collector (λ d. record d { clearing = None; returned = None }) (record v { known = known_but (indexes members) v.known }))))
    else loses l v) w
CollectorTells z (collector_ask.LoadOwn q) word v before found w = KnownSays v Collector q found × CountSays v q found × Adds z v before [] (learns Collector q found v) w
CollectorTells z (collector_ask.LoadLeft budget steps) word v before found w = (found ≡ length (after v.front).removals) × Adds z v before (entry Collector (act.PurgeGc budget (purge.Ran steps found)) ∷ []) (learns Collector part.Left found v) w
CollectorTells z (collector_ask.StoreOwn q value) word v before found w = Adds z v before [] (catches_up q (learns Collector q value v)) w
