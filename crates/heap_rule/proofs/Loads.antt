-- A load that adds no entry: the words and the history are as they were, and its seat has seen all and knows more.
use Rattle.std.proofs.Common.{◌≡◌, ℕ, [], set}
use Rattle.std.specs.Prelude.{slice_index}
use mathlib.Core.Option.{some}
use lib.ListN.{get_elem?}
use Rattle.atomic_table.specs.Table.{keeps, stepped}
use Rattle.atomic_table.specs.Table as tables
use Rattle.world_model.specs.Sizes.{Sizes}
use Rattle.world_model.specs.World.{unit_of, in_world, pair_of}
use Rattle.world_model.specs.Follows.{is_removed}
use Rattle.heap_rule.specs.Types.{View}
use Rattle.heap_rule.specs.Types.part
use Rattle.heap_rule.specs.Views.{EachSeat}
use Rattle.heap_rule.specs.Sees.{SeesRefs, SeesLanes, SeesMarkers, SeesCollector, SeesKnown, SeesLate, SeesMemos}
use Rattle.heap_rule.specs.Rule.{Keeps}
use Rattle.heap_rule.proofs.Placing.{shows_load}
use Rattle.heap_rule.proofs.Pasts.{seats_stay, no_more}

abbrev pub Fact : Type 1
Fact = ℕ → View → Type 0

-- the facts of seats, of what stands behind these words
module _ (z : Sizes) (s : tables.State (Unit {0}) View) (k : Keeps z s) where
  abbrev pub RefsSeen : Fact
  RefsSeen = SeesRefs z k.index k.s.world.kinds

  abbrev pub LanesSeen : Fact
  LanesSeen = SeesLanes k.c.hand k.c.lane_owes k.free k.making k.prepared k.loose

  abbrev pub MarkersSeen : Fact
  MarkersSeen = SeesMarkers z k.index (unit_of k.s.world) k.c.place k.c.scan k.c.marker_owes k.c.marker_open k.s.slices

  abbrev pub CollectorIsSeen : Fact
  CollectorIsSeen = SeesCollector z k.c.job k.c.own_hand k.c.own_found k.c.dirty k.cursor k.looking k.sweeping k.chain k.clearing (λ l. k.memory (part.ReturnStock l))

  abbrev pub KnownSeen : Fact
  KnownSeen = SeesKnown k.memory k.spot (is_removed k.s.world)

  abbrev pub LatesSeen : Fact
  LatesSeen = SeesLate k.late

  abbrev pub MemosSeen : Fact
  MemosSeen = SeesMemos z k.c.lane_open (λ i. k.memory (part.Serial i)) k.spot k.index (in_world k.s.world) (pair_of k.s.world)

-- what is true of the view before is true of this one
pub record Learns (z : Sizes) (s : tables.State (Unit {0}) View) (k : Keeps z s) (id : ℕ) (v u : View) : Type 0 where
  pub passes : u.passes ≡ v.passes
  pub refs : RefsSeen z s k id v → RefsSeen z s k id u
  pub lanes : LanesSeen z s k id v → LanesSeen z s k id u
  pub markers : MarkersSeen z s k id v → MarkersSeen z s k id u
  pub collector : CollectorIsSeen z s k id v → CollectorIsSeen z s k id u
  pub known : KnownSeen z s k id v → KnownSeen z s k id u
  pub lates : LatesSeen z s k id v → LatesSeen z s k id u
  pub memos : MemosSeen z s k id v → MemosSeen z s k id u

pub loads : (z : Sizes) (id : ℕ) (v u : View) (s : tables.State (Unit {0}) View) (k : Keeps z s) → get_elem? s.views id ≡ some v → (i : ℕ) → Learns z s k id v u
    → Keeps z (stepped s i (slice_index s.words i) id [] (record u { front = k.history }) keeps)
loads z id v u s k at i learns = record {
  memory = k.memory;
  history = k.history;
  s = k.s;
  c = k.c;
  index = k.index;
  spot = k.spot;
  free = k.free;
  back = k.back;
  making = k.making;
  prepared = k.prepared;
  loose = k.loose;
  sweeping = k.sweeping;
  cursor = k.cursor;
  looking = k.looking;
  chain = k.chain;
  clearing = k.clearing;
  late = k.late;
  owner = k.owner;
  shows = shows_load z s.words k.memory i k.shows;
  past = (no_more z k.history k.s k.c.parity k.owner s.views id v u learns.passes at k.past).past;
  lawful = k.lawful;
  phase = k.phase;
  frames = k.frames;
  gate = k.gate;
  heads = k.heads;
  rows = k.rows;
  root_words = k.root_words;
  colours = k.colours;
  greys = k.greys;
  cells = k.cells;
  roots = k.roots;
  held = k.held;
  contents = k.contents;
  strongs = k.strongs;
  items = k.items;
  blank = k.blank;
  chains = k.chains;
  counts = k.counts;
  units = k.units;
  loosens = k.loosens;
  pairs = k.pairs;
  remains = k.remains;
  clearing_is = k.clearing_is;
  removed_units = k.removed_units;
  removed_chain = k.removed_chain;
  swept = k.swept;
  looks = k.looks;
  counters = k.counters;
  lane_licence = k.lane_licence;
  found_licence = k.found_licence;
  root_licence = k.root_licence;
  store_licence = k.store_licence;
  refs = now (RefsSeen z s k) (λ h. h) learns.refs k.refs;
  lanes = now (LanesSeen z s k) (λ h. h) learns.lanes k.lanes;
  markers = now (MarkersSeen z s k) (λ h. h) learns.markers k.markers;
  collector = now (CollectorIsSeen z s k) (λ h. h) learns.collector k.collector;
  known = now (KnownSeen z s k) (λ h. h) learns.known k.known;
  lates = now (LatesSeen z s k) (λ h. h) learns.lates k.lates;
  memos = now (MemosSeen z s k) (λ h. h) learns.memos k.memos;
}
  where
    -- the fact does not read the front
    now : (K : Fact) → (K id u → K id (record u { front = k.history })) → (K id v → K id u) → EachSeat K s.views → EachSeat K (set s.views id (record u { front = k.history }))
    now K front mine each = seats_stay K K s.views id v (record u { front = k.history }) at (λ h. front (mine h)) (λ j w other there was. was) each
