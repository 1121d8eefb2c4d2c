-- What the stages of a whole collection leave.
use Rattle.std.specs.Prelude.{◌≡◌, ◌≤◌, ◌⊎◌, ◌*◌, ℕ, List, [], ◌∷◌, ◌++◌, flat_map, length}
use Rattle.world_model.specs.Sizes.{Sizes, item_count}
use Rattle.world_model.specs.State.{grey_units}
use Rattle.world_model.specs.Histories.{state_of, after, Legal}
use Rattle.world_model.specs.Calls.{by, Slice, by_marker}
use Rattle.world_model.specs.Engines.{Holdings, KeepsHeld}
use Rattle.world_play.specs.Header.{Header}
use Rattle.world_play.specs.Types.{Name, Idle, Marking, Gathering, Collector, Act, Entry, Reply, GcCmd}
use Rattle.world_play.specs.Types.act
use Rattle.world_play.specs.Types.commit
use Rattle.world_play.specs.Collections.{SlicesSpent, MarksUntilIdle, SweepsMore, SweepsAll, PurgesAll, GcTurn, GcPart, told_full}
use Rattle.world_play.specs.Text.{HasText}

-- a collection marks, and nothing is open
pub record IsMarking (z : Sizes) (history : List Entry) : Type 0 where
  pub legal : Legal z history
  pub marking : (after history).phase ≡ Marking
  pub closed : (after history).opened ≡ []

-- slices marked until one was idle
pub record Marks (z : Sizes) (old new : List Entry) (budget : ℕ) : Type 0 where
  pub slices : List Slice
  pub marked : MarksUntilIdle (state_of old) budget slices
  pub grown : new ≡ old ++ flat_map by_marker slices
  pub now : IsMarking z new
  pub black : grey_units (state_of new) ≡ []

-- slices marked so far, and none was idle
pub record MarksOn (z : Sizes) (old new : List Entry) (budget : ℕ) : Type 0 where
  pub slices : List Slice
  pub marked : SlicesSpent (state_of old) budget slices
  pub grown : new ≡ old ++ flat_map by_marker slices
  pub now : IsMarking z new

-- what a collection removed is being found
pub record IsGathering (z : Sizes) (history : List Entry) : Type 0 where
  pub legal : Legal z history
  pub gathering : (after history).phase ≡ Gathering

-- no collection runs
pub record HasSwept (z : Sizes) (history : List Entry) : Type 0 where
  pub legal : Legal z history
  pub idle : (after history).phase ≡ Idle

-- sweeps found all that was removed
pub record Finds (z : Sizes) (old new : List Entry) (budget : ℕ) (found : List Name) : Type 0 where
  pub sweeps : List Act
  pub swept : SweepsAll budget sweeps
  pub grown : new ≡ old ++ by Collector sweeps
  pub names : (after new).found ≡ (after old).found ++ found
  pub few : length found ≤ item_count z
  pub opened : (after new).opened ≡ (after old).opened
  pub now : HasSwept z new

-- sweeps found some of it so far
pub record FindsOn (z : Sizes) (old new : List Entry) (budget : ℕ) (found : List Name) : Type 0 where
  pub sweeps : List Act
  pub swept : SweepsMore budget sweeps
  pub grown : new ≡ old ++ by Collector sweeps
  pub names : (after new).found ≡ (after old).found ++ found
  pub few : length found ≤ (after new).swept
  pub opened : (after new).opened ≡ (after old).opened
  pub now : IsGathering z new

-- some sweeps were made, or all
pub record FindsSome (z : Sizes) (old new : List Entry) (budget : ℕ) : Type 0 where
  pub sweeps : List Act
  pub swept : SweepsMore budget sweeps ⊎ SweepsAll budget sweeps
  pub grown : new ≡ old ++ by Collector sweeps
  pub legal : Legal z new

-- the history grew by slices, a commit and sweeps
abbrev pub GrowsBy : List Entry → List Entry → List Slice → List Act → Type 0
GrowsBy old new slices sweeps = new ≡ ((old ++ flat_map by_marker slices) ++ by Collector (act.CommitGc commit.Done ∷ [])) ++ by Collector sweeps

-- purges destroyed what was found
pub record Destroys (z : Sizes) (budget : ℕ) (header : Header) (old new : List Entry) : Type 0 where
  pub purges : List (List Act)
  pub purged : PurgesAll budget header (103 * length (after old).found) (state_of old) purges
  pub grown : new ≡ old ++ flat_map (by Collector) purges
  pub found : (after new).found ≡ (after old).found
  pub opened : (after new).opened ≡ (after old).opened
  pub legal : Legal z new

-- the rest of a whole collection, once it has begun: it marked, was committed, found what it removed, and destroyed it
pub record GoesOn (z : Sizes) (budget : ℕ) (header : Header) (old new : List Entry) (before now : Holdings) (r : Reply) : Type 0 where
  pub slices : List Slice
  pub sweeps : List Act
  pub front : List Entry
  pub marked : MarksUntilIdle (state_of old) budget slices
  pub swept : SweepsAll budget sweeps
  pub grown : GrowsBy old front slices sweeps
  pub destroys : Destroys z budget header front new
  pub answer : r ≡ told_full (after new)
  pub opened : (after front).opened ≡ (after old).opened
  pub held : KeepsHeld before now

-- a part of that, up to some of its sweeps, or to all of them
pub record GoesOnSome (z : Sizes) (budget : ℕ) (old new : List Entry) : Type 0 where
  pub slices : List Slice
  pub sweeps : List Act
  pub marked : MarksUntilIdle (state_of old) budget slices
  pub swept : SweepsMore budget sweeps ⊎ SweepsAll budget sweeps
  pub grown : GrowsBy old new slices sweeps
  pub legal : Legal z new

-- a command of the collector was played
pub record Collects (z : Sizes) (budget : ℕ) (header : Header) (old new : List Entry) (before now : Holdings) (what : GcCmd) (r : Reply) : Type 0 where
  pub piece : List Entry
  pub grown : new ≡ old ++ piece
  pub turn : GcTurn budget header (state_of old) what piece r
  pub kinds : (after new).kinds ≡ (after old).kinds
  pub opened : (after new).opened ≡ (after old).opened
  pub held : KeepsHeld before now
  pub told : HasText header.classes.classes r

-- some of its calls were made
pub record CollectsSome (z : Sizes) (budget : ℕ) (old new : List Entry) (what : GcCmd) : Type 0 where
  pub part : List Entry
  pub grown : new ≡ old ++ part
  pub made : GcPart budget (state_of old) what part
  pub legal : Legal z new
