-- The rule: one legal history that the words show, and what each seat knows of it.
use Rattle.std.specs.Prelude.{◌≡◌, ℕ, Bool, List, ◌++◌, length, Option, option_map}
use Rattle.std.specs.List.{list_any}
use Rattle.atomic_table.specs.Table as table
use Rattle.world_model.specs.Sizes.{Sizes}
use Rattle.world_model.specs.NameLists as names
use Rattle.world_model.specs.World.{World, unit_of, in_world, kind_of, refs_of, plain_of, pair_of, occupied, made, drawn}
use Rattle.world_model.specs.State.{State, is_marked, is_grey}
use Rattle.world_model.specs.Histories.{Legal, state_of}
use Rattle.world_model.specs.Follows.{is_removed}
use Rattle.world_model.specs.Stays.{parity_of}
use Rattle.mark_core.specs.Machine.{Core}
use Rattle.mark_core.specs.Lawful.{Lawful}
use Rattle.heap_rule.specs.Types.{Name, Ref, Pass, Entry, Part, Marking, Looking, View}
use Rattle.heap_rule.specs.Types.part
use Rattle.heap_rule.specs.Memory.{Memory, Shows}
use Rattle.heap_rule.specs.Units.{sizes_of}
use Rattle.heap_rule.specs.Colours.{GateShown, HeadsShown, RowsShown, RootWordsShown, FramesShown, ColoursShown, GreysShown, CellsShown, RootsShown, HeldShown}
use Rattle.heap_rule.specs.Contents.{ContentsShown, StrongsShown}
use Rattle.heap_rule.specs.Items.{Spot, last_item, ItemsShown, BlankShown, ChainsShown, CountsShown, UnitsLinked}
use Rattle.heap_rule.specs.Loosening.{LoosensShown}
use Rattle.heap_rule.specs.Pairs.{PairsShown}
use Rattle.heap_rule.specs.Removal.{indexes, waits_in, clears_of, RemainsShown, ClearingShown, RemovedLinked, RemovedChainShown, SweptShown, LookingShown}
use Rattle.heap_rule.specs.Counters.{polls_next, while_gathering, CountersShown}
use Rattle.heap_rule.specs.Licences.{LanesLicensed, FoundsLicensed, RootsLicensed, StoresLicensed}
use Rattle.heap_rule.specs.Views.{EachSeat}
use Rattle.heap_rule.specs.Sees.{SeesHistory, SeesRefs, SeesLanes, SeesMarkers, SeesCollector, SeesKnown, SeesLate, SeesMemos}

-- the history is legal, leaves this state, has this parity, and each seat has seen a beginning of it
pub record Past (z : Sizes) (history : List Entry) (s : State) (parity : Bool) (owner : Pass → ℕ) (views : List View) : Type 0 where
  pub legal : Legal z history
  pub left : state_of history ≡ s
  pub parity_is : parity_of history ≡ parity
  pub sees : EachSeat (SeesHistory owner history) views

-- the removed units' first members that no sweep has met
abbrev pub waits_of : World → List Name → Name → Bool
waits_of w sweeping = waits_in w.removals w.last_removed (w.found ++ sweeping)

-- whether the collector clears the words of this object
abbrev pub clears : World → Option Name → Name → Bool
clears w clearing = clears_of w.last_removed clearing

-- Between any two steps there are these things, of which all sections hold, and of which each seat knows what is its own
pub record Keeps (z : Sizes) (t : table.State (Unit {0}) View) : Type 0 where
  -- the words, the history and what it leaves, the machine of marking
  pub memory : Memory
  pub history : List Entry
  pub s : State
  pub c : Core
  -- where each object stands, what each index is for, and the chains
  pub index : Name → ℕ
  pub spot : ℕ → Spot
  pub free : ℕ → List ℕ
  pub back : ℕ → List ℕ
  pub making : ℕ → List ℕ
  -- of each lane that takes a unit apart, the item whose head is prepared, and that of the object which has just left
  pub prepared : ℕ → Option ℕ
  pub loose : ℕ → Option ℕ
  -- what the running sweep has found and passed, and what it knows of the next item
  pub sweeping : List Name
  pub cursor : ℕ
  pub looking : Looking
  -- the removed chain, and the unit whose words are cleared
  pub chain : List Ref
  pub clearing : Option Name
  -- the counters that are behind, and the seat of each pass
  pub late : Part → Bool
  pub owner : Pass → ℕ
  pub shows : Shows z t.words memory
  pub past : Past z history s c.parity owner t.views
  pub lawful : Lawful (sizes_of z) c
  -- colours
  pub phase : c.phase ≡ s.world.phase
  pub frames : FramesShown z c.lane_open c.marker_open s.world.opened
  pub gate : GateShown (memory part.Gate) c.phase c.parity c.dirty (length s.world.opened)
  pub heads : HeadsShown index (λ i. memory (part.Head i)) c.parity c.marked (unit_of s.world) (in_world s.world) prepared
  pub rows : RowsShown z (λ r w. memory (part.Row r w)) c.place
  pub root_words : RootWordsShown z (λ w. memory (part.Root w)) c
  pub colours : ColoursShown index (unit_of s.world) (in_world s.world) (waits_of s.world sweeping) (is_marked s.marks) c.marked c.doomed
  pub greys : c.phase ≡ Marking → GreysShown index (unit_of s.world) (in_world s.world) (is_grey s.marks) (λ u. list_any (names.has s.marks.scanned) u) c.place c.scanned
  pub cells : CellsShown z index (unit_of s.world) (in_world s.world) (refs_of s.world) s.world.cell c.cells c.cell
  pub roots : RootsShown z index (unit_of s.world) (in_world s.world) s.world.rooted s.world.strong c.root
  pub held : HeldShown index (unit_of s.world) (λ l. (s.frames l).held) c.holds
  -- contents
  pub contents : ContentsShown z index (λ i. memory (part.Owner i)) (λ i. memory (part.NameOf i)) (λ i. memory (part.KindOf i)) (λ i slot. memory (part.Cell i slot)) (unit_of s.world) (in_world s.world) (kind_of s.world) (refs_of s.world) (plain_of s.world) s.world.cell s.world.plain
  pub strongs : StrongsShown z index (λ l h. memory (part.Strong l h)) s.world.strong
  -- items
  pub items : ItemsShown z index spot (in_world s.world) (is_removed s.world)
  pub blank : BlankShown z spot (λ i. memory (part.Head i)) (λ i. memory (part.Owner i)) (λ i. memory (part.NameOf i)) (λ i. memory (part.KindOf i)) (λ i. memory (part.Serial i)) (λ i slot. memory (part.Cell i slot))
  pub chains : ChainsShown z (λ i. memory (part.Next i)) (λ l. memory (part.FreeStock l)) (λ l. memory (part.ReturnStock l)) spot free back making
  pub counts : CountsShown z free back making (occupied s.world)
  pub units : UnitsLinked index (λ i. memory (part.Next i)) (unit_of s.world) loose (λ l. (s.frames l).broken)
  pub loosens : LoosensShown s.world.phase c.lane_open spot (in_world s.world) (unit_of s.world) (λ l. (s.frames l).broken) prepared loose
  -- pairs
  pub pairs : PairsShown index (λ i. memory (part.Serial i)) (clears s.world clearing) (in_world s.world) (is_removed s.world) s.world.garbage (pair_of s.world)
  -- removal
  pub remains : RemainsShown index (λ i. memory (part.Head i)) (λ i. memory (part.Owner i)) (λ i. memory (part.NameOf i)) (λ i. memory (part.KindOf i)) (clears s.world clearing) c.parity s.world.removals s.world.last_removed (s.world.found ++ sweeping) (kind_of s.world)
  pub clearing_is : ClearingShown clearing s.world
  pub removed_units : RemovedLinked index (λ i. memory (part.Next i)) s.world.removals s.world.last_removed (s.world.found ++ sweeping)
  pub removed_chain : RemovedChainShown index (λ i. memory (part.Next i)) (memory part.Removed) (late part.Removed) chain s.world.removals s.world.last_removed (s.world.found ++ sweeping)
  pub swept : SweptShown z index s.world.phase s.world.removals s.world.found sweeping cursor s.world.swept
  pub looks : LookingShown z index spot s.world.removals s.world.last_removed (s.world.found ++ sweeping) cursor looking
  -- counters
  pub counters : CountersShown z (λ l. memory (part.NamesMade l)) (λ l. memory (part.SerialsMade l)) (memory part.Cursor) (memory part.Left) (memory part.Polling) late (made s.world) (drawn s.world) s.world.swept (while_gathering s.world.phase (length s.world.found) (length s.world.removals))
      (while_gathering s.world.phase (last_item (indexes chain)) (option_map index (polls_next s.world s.collector.asked)))
  -- licences
  pub lane_licence : LanesLicensed c.hand c.lane_owes (λ l. (s.frames l).shaded)
  pub found_licence : FoundsLicensed index s.world.units c.scan (λ m. (s.slices m).moments)
  pub root_licence : RootsLicensed index s.world.units c.job c.own_hand c.own_found s.collector.started s.collector.shading s.marks.moments s.world.opened (λ m. (s.slices m).amid_begin)
  pub store_licence : StoresLicensed c.job c.dirty s.collector.stored c.lane_open c.marker_open (λ l. (s.frames l).shaded)
  -- seats
  pub refs : EachSeat (SeesRefs z index s.world.kinds) t.views
  pub lanes : EachSeat (SeesLanes c.hand c.lane_owes free making prepared loose) t.views
  pub markers : EachSeat (SeesMarkers z index (unit_of s.world) c.place c.scan c.marker_owes c.marker_open s.slices) t.views
  pub collector : EachSeat (SeesCollector z c.job c.own_hand c.own_found c.dirty cursor looking sweeping chain clearing (λ l. memory (part.ReturnStock l))) t.views
  pub known : EachSeat (SeesKnown memory spot (is_removed s.world)) t.views
  pub lates : EachSeat (SeesLate late) t.views
  pub memos : EachSeat (SeesMemos z c.lane_open (λ i. memory (part.Serial i)) spot index (in_world s.world) (pair_of s.world)) t.views
