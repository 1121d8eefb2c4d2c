-- A step on the gate: what it may change, and the rule behind it.
use Rattle.std.proofs.Common.{◌≡◌, ◌≢◌, ℕ, suc, ◌+◌, ◌-◌, ◌%◌, ◌^◌, ◌<◌, refl, Bool, List, [], length, set, arith}
use mathlib.Core.Option.{some}
use lib.ListN.{get_elem?}
use Rattle.atomic_table.specs.Table.{keeps, stepped}
use Rattle.atomic_table.specs.Table as tables
use Rattle.world_model.specs.Sizes.{Sizes}
use Rattle.world_model.specs.World.{World, in_world, unit_of, pair_of}
use Rattle.world_model.specs.State.{State, Frame, Slicing}
use Rattle.world_model.specs.Next.{next}
use Rattle.world_model.specs.Follows.{is_removed}
use Rattle.mark_core.specs.Machine.{Core}
use Rattle.mark_core.specs.Lawful.{Lawful}
use Rattle.word_layout.specs.Values.{gate_word}
use Rattle.word_layout.proofs.Different.{bit_below, phase_below}
use Rattle.heap_rule.specs.Types.{Pass, Entry, Gate, Job, LaneView, MarkerView, CollectorView, Memo, View}
use Rattle.heap_rule.specs.Types.part
use Rattle.heap_rule.specs.Memory.{write}
use Rattle.heap_rule.specs.Units.{sizes_of}
use Rattle.heap_rule.specs.Colours.{GateShown, FramesShown, HeldShown}
use Rattle.heap_rule.specs.Items.{UnitsLinked}
use Rattle.heap_rule.specs.Loosening.{LoosensShown}
use Rattle.heap_rule.specs.Licences.{LanesLicensed, FoundsLicensed, RootsLicensed, StoresLicensed}
use Rattle.heap_rule.specs.Views.{EachSeat}
use Rattle.heap_rule.specs.Sees.{SeesLanes, SeesMarkers, SeesCollector, SeesKnown, SeesMemos}
use Rattle.heap_rule.specs.Rule.{Past, Keeps}
use Rattle.heap_rule.proofs.Placing.{shows_set}
use Rattle.heap_rule.proofs.Pasts.{seats_stay}
use Rattle.heap_rule.proofs.Moments.{known_shared}
use Rattle.heap_rule.proofs.Loads.{Fact, RefsSeen, LanesSeen, MarkersSeen, CollectorIsSeen, KnownSeen, LatesSeen, MemosSeen}

-- one frame more is open, and one less
pub gate_add : (g : Gate) → g.frames < 255 → (gate_word g + 256) % 2 ^ 64 ≡ gate_word (record g { frames = suc g.frames })
gate_add g few = let small = phase_below g.phase in let p = bit_below g.parity in let d = bit_below g.dirty in omega arith

pub gate_sub : (g : Gate) → g.frames < 255 → (gate_word (record g { frames = suc g.frames }) + (2 ^ 64 - 256)) % 2 ^ 64 ≡ gate_word g
gate_sub g few = let small = phase_below g.phase in let p = bit_below g.parity in let d = bit_below g.dirty in omega arith

-- what such a step may change: of the machine, of what the history leaves, and of the view of its seat
pub record Turn : Type 0 where
  pub lane_open : ℕ → Bool
  pub marker_open : ℕ → Bool
  pub holds : ℕ → ℕ → Bool
  pub lane_owes : ℕ → Bool
  pub marker_owes : ℕ → Bool
  pub dirty : Bool
  pub job : Job
  pub opened : List Pass
  pub moments : List World
  pub frames : ℕ → Frame
  pub slices : ℕ → Slicing
  pub stored : Bool
  pub lanes : List LaneView
  pub markers : List MarkerView
  pub collector : CollectorView
  pub memos : List Memo

-- nothing changes
abbrev pub still : Core → State → View → Turn
still c s v = record {
  lane_open = c.lane_open;
  marker_open = c.marker_open;
  holds = c.holds;
  lane_owes = c.lane_owes;
  marker_owes = c.marker_owes;
  dirty = c.dirty;
  job = c.job;
  opened = s.world.opened;
  moments = s.marks.moments;
  frames = s.frames;
  slices = s.slices;
  stored = s.collector.stored;
  lanes = v.lanes;
  markers = v.markers;
  collector = v.collector;
  memos = v.memos;
}

-- an entry is added, which opens or closes a frame or a slice
abbrev pub with_entry : State → Entry → Turn → Turn
with_entry s e t = record t {
  opened = (next s e).world.opened;
  moments = (next s e).marks.moments;
  frames = (next s e).frames;
  slices = (next s e).slices;
  stored = (next s e).collector.stored;
}

abbrev pub core_by : Core → Turn → Core
core_by c t = record c { lane_open = t.lane_open; marker_open = t.marker_open; holds = t.holds; lane_owes = t.lane_owes; marker_owes = t.marker_owes; dirty = t.dirty; job = t.job }

abbrev pub state_by : State → Turn → State
state_by s t = record s {
  world = record s.world { opened = t.opened };
  marks = record s.marks { moments = t.moments };
  frames = t.frames;
  slices = t.slices;
  collector = record s.collector { stored = t.stored };
}

abbrev pub view_by : View → Turn → List Entry → View
view_by v t history = record v { front = history; lanes = t.lanes; markers = t.markers; collector = t.collector; memos = t.memos }

-- a fact of each seat is another one of it behind the step
pub record Turns (s : tables.State (Unit {0}) View) (id : ℕ) (v w : View) (K L : Fact) : Type 0 where
  pub mine : K id v → L id w
  pub others : (j : ℕ) (u : View) → j ≢ id → get_elem? s.views j ≡ some u → K j u → L j u

module _ (z : Sizes) (s : tables.State (Unit {0}) View) (k : Keeps z s) (id : ℕ) (v : View) (t : Turn) (history : List Entry) (x : ℕ) where
  abbrev pub Behind : Fact → Fact → Type 0
  Behind K L = Turns s id v (view_by v t history) K L

  -- what has to be shown of such a step: of the sections that it touches, and of what seats know of these
  pub record Turned : Type 0 where
    pub past : Past z history (state_by k.s t) k.c.parity k.owner (set s.views id (view_by v t history))
    pub lawful : Lawful (sizes_of z) (core_by k.c t)
    pub frames : FramesShown z t.lane_open t.marker_open t.opened
    pub gate : GateShown x k.c.phase k.c.parity t.dirty (length t.opened)
    pub held : HeldShown k.index (unit_of k.s.world) (λ l. (t.frames l).held) t.holds
    pub units : UnitsLinked k.index (λ i. k.memory (part.Next i)) (unit_of k.s.world) k.loose (λ l. (t.frames l).broken)
    pub loosens : LoosensShown k.s.world.phase t.lane_open k.spot (in_world k.s.world) (unit_of k.s.world) (λ l. (t.frames l).broken) k.prepared k.loose
    pub lane_licence : LanesLicensed k.c.hand t.lane_owes (λ l. (t.frames l).shaded)
    pub found_licence : FoundsLicensed k.index k.s.world.units k.c.scan (λ m. (t.slices m).moments)
    pub root_licence : RootsLicensed k.index k.s.world.units t.job k.c.own_hand k.c.own_found k.s.collector.started k.s.collector.shading t.moments t.opened (λ m. (t.slices m).amid_begin)
    pub store_licence : StoresLicensed t.job t.dirty t.stored t.lane_open t.marker_open (λ l. (t.frames l).shaded)
    pub lanes : Behind (LanesSeen z s k) (SeesLanes k.c.hand t.lane_owes k.free k.making k.prepared k.loose)
    pub markers : Behind (MarkersSeen z s k) (SeesMarkers z k.index (unit_of k.s.world) k.c.place k.c.scan t.marker_owes t.marker_open t.slices)
    pub collector : Behind (CollectorIsSeen z s k)
        (SeesCollector z t.job k.c.own_hand k.c.own_found t.dirty k.cursor k.looking k.sweeping k.chain k.clearing (λ l. k.memory (part.ReturnStock l)))
    pub memos : Behind (MemosSeen z s k) (SeesMemos z t.lane_open (λ i. k.memory (part.Serial i)) k.spot k.index (in_world k.s.world) (pair_of k.s.world))

pub turned : (z : Sizes) (s : tables.State (Unit {0}) View) (k : Keeps z s) (id : ℕ) (v : View) (t : Turn) (history : List Entry) (x : ℕ) → get_elem? s.views id ≡ some v
    → Turned z s k id v t history x → Keeps z (stepped s 0 x id [] (view_by v t history) keeps)
turned z s k id v t history x at new = record {
  memory = write k.memory part.Gate x;
  history = history;
  s = state_by k.s t;
  c = core_by k.c t;
  index = k.index;
  spot = k.spot;
  free = k.free;
  back = k.back;
  making = k.making;
  prepared = k.prepared;
  loose = k.loose;
  sweeping = k.sweeping;
  cursor = k.cursor;
  looking = k.looking;
  chain = k.chain;
  clearing = k.clearing;
  late = k.late;
  owner = k.owner;
  shows = shows_set z s.words k.memory part.Gate x tt k.shows;
  past = new.past;
  lawful = new.lawful;
  phase = k.phase;
  frames = new.frames;
  gate = new.gate;
  heads = k.heads;
  rows = k.rows;
  root_words = k.root_words;
  colours = k.colours;
  greys = k.greys;
  cells = k.cells;
  roots = k.roots;
  held = new.held;
  contents = k.contents;
  strongs = k.strongs;
  items = k.items;
  blank = k.blank;
  chains = k.chains;
  counts = k.counts;
  units = new.units;
  loosens = new.loosens;
  pairs = k.pairs;
  remains = k.remains;
  clearing_is = k.clearing_is;
  removed_units = k.removed_units;
  removed_chain = k.removed_chain;
  swept = k.swept;
  looks = k.looks;
  counters = k.counters;
  lane_licence = new.lane_licence;
  found_licence = new.found_licence;
  root_licence = new.root_licence;
  store_licence = new.store_licence;
  refs = seats (RefsSeen z s k) (RefsSeen z s k) (λ h. h) (λ j u other there h. h) k.refs;
  lanes = seats (LanesSeen z s k) _ new.lanes.mine new.lanes.others k.lanes;
  markers = seats (MarkersSeen z s k) _ new.markers.mine new.markers.others k.markers;
  collector = seats (CollectorIsSeen z s k) _ new.collector.mine new.collector.others k.collector;
  known = seats (KnownSeen z s k) (SeesKnown (write k.memory part.Gate x) k.spot (is_removed k.s.world)) (λ h. known_shared k.memory part.Gate x k.spot (is_removed k.s.world) refl id v h)
      (λ j u other there h. known_shared k.memory part.Gate x k.spot (is_removed k.s.world) refl j u h) k.known;
  lates = seats (LatesSeen z s k) (LatesSeen z s k) (λ h. h) (λ j u other there h. h) k.lates;
  memos = seats (MemosSeen z s k) _ new.memos.mine new.memos.others k.memos;
}
  where
    seats : (K L : Fact) → (K id v → L id (view_by v t history)) → ((j : ℕ) (u : View) → j ≢ id → get_elem? s.views j ≡ some u → K j u → L j u) → EachSeat K s.views
        → EachSeat L (set s.views id (view_by v t history))
    seats K L mine others each = seats_stay K L s.views id v (view_by v t history) at mine others each
