-- Solo calls: the entries of one call while nothing else runs.
use Rattle.std.specs.Prelude.{◌≡◌, ◌≢◌, ◌↔◌, ℕ, ◌<◌, Bool, true, false, ◌⊎◌, List, [], ◌∷◌, ◌++◌, map, count_by, None, IsTrue, ⊤}
use Rattle.std.specs.List.{list_any, list_all, flat_map, AllByRecursion}
use Rattle.world_model.specs.Types.{Name, Marked, Commit, Purged, Marking, Pass, Lane, Marker, Collector, Act, Entry}
use Rattle.world_model.specs.Types.act
use Rattle.world_model.specs.Types.begin
use Rattle.world_model.specs.Types.commit
use Rattle.world_model.specs.Types.stop
use Rattle.world_model.specs.Types.purge
use Rattle.world_model.specs.Sizes.{Sizes}
use Rattle.world_model.specs.NameLists.{has}
use Rattle.world_model.specs.World.{World, unit_of}
use Rattle.world_model.specs.Reach.{graph, IsUnit, Refers, IsRootUnit}
use Rattle.world_model.specs.State.{State, grey_units}
use Rattle.world_model.specs.Next.{run}
use Rattle.world_model.specs.Histories.{state_of, Legal}
use Rattle.world_model.specs.Engines.{no_slice}

-- entries of one pass
abbrev pub by : Pass → List Act → List Entry
by p acts = map (λ a. record { pass = p; act = a }) acts

-- ---- the entries of one call

-- a store, perhaps after a note that it marked its target
abbrev pub StoreEntries : Act → List Act → Type 0
StoreEntries a acts = (acts ≡ a ∷ []) ⊎ ((of : Name) × (acts ≡ act.Kept of ∷ a ∷ []))

-- the start of a collection, and notes of the units that it marks
pub record StartEntries (acts : List Act) : Type 0 where
  pub of : List Name
  pub are : acts ≡ act.BeginGc begin.Started ∷ map act.Kept of

-- a note of a marker
abbrev pub is_mark_note : Act → Bool
is_mark_note (act.Kept of) = true
is_mark_note (act.Scanned of) = true
is_mark_note _ = false

-- a slice opens, notes what it keeps and scans, and closes
pub record SliceEntries (budget : ℕ) (reply : Marked) (acts : List Act) : Type 0 where
  pub notes : List Act
  pub are : acts ≡ (act.SliceOpen ∷ notes) ++ act.Slice budget reply ∷ []
  pub only : IsTrue (list_all is_mark_note notes)

-- a part of a purge: a step of destruction, or the finish that goes with one
abbrev pub is_purge_part : Act → Bool
is_purge_part (act.Begun of) = true
is_purge_part (act.Asked of poll answer) = true
is_purge_part (act.Finished of) = true
is_purge_part (act.Released of) = true
is_purge_part _ = false

-- a step of destruction, which counts against a budget
abbrev pub is_purge_step : Act → Bool
is_purge_step (act.Begun of) = true
is_purge_step (act.Asked of poll answer) = true
is_purge_step (act.Released of) = true
is_purge_step _ = false

-- the steps that a purge says it made
abbrev pub steps_of : Purged → ℕ
steps_of purge.Gathering = 0
steps_of (purge.Ran steps left) = steps

-- a purge closes its own steps, and counts them all
pub record PurgeEntries (budget : ℕ) (reply : Purged) (acts : List Act) : Type 0 where
  pub parts : List Act
  pub are : acts ≡ parts ++ act.PurgeGc budget reply ∷ []
  pub only : IsTrue (list_all is_purge_part parts)
  pub counted : steps_of reply ≡ count_by is_purge_step parts

-- a unit is taken apart: notes of the members that leave it, and then the answer
pub record DissolveEntries (at : Name) (count : ℕ) (acts : List Act) : Type 0 where
  pub of : List Name
  pub are : acts ≡ map act.Loose of ++ act.Dissolve at count ∷ []

-- What a pass adds to a history by one call that this act closes, whatever else runs. A note or a step of destruction closes none.
abbrev pub EntriesOf : Act → List Act → Type 0
EntriesOf (act.WriteRef at slot to old) acts = StoreEntries (act.WriteRef at slot to old) acts
EntriesOf (act.Root at on old) acts = StoreEntries (act.Root at on old) acts
EntriesOf (act.SetStrong h to old) acts = StoreEntries (act.SetStrong h to old) acts
EntriesOf (act.BeginGc begin.Started) acts = StartEntries acts
EntriesOf (act.Slice budget reply) acts = SliceEntries budget reply acts
EntriesOf (act.PurgeGc budget reply) acts = PurgeEntries budget reply acts
EntriesOf (act.Dissolve at count) acts = DissolveEntries at count acts
EntriesOf act.SliceOpen acts = ⊥
EntriesOf (act.Kept of) acts = ⊥
EntriesOf (act.Scanned of) acts = ⊥
EntriesOf (act.Begun of) acts = ⊥
EntriesOf (act.Asked of poll answer) acts = ⊥
EntriesOf (act.Finished of) acts = ⊥
EntriesOf (act.Released of) acts = ⊥
EntriesOf (act.Loose of) acts = ⊥
EntriesOf a acts = acts ≡ a ∷ []

-- ---- what is so of a call besides, because it ran alone

-- the notes of a start name the root units and no other
pub record MarksRoots (w : World) (of : List Name) : Type 0 where
  pub roots : AllByRecursion (λ n. IsRootUnit (graph w) (unit_of w n)) of
  pub each : (u : List Name) → IsUnit (graph w) u → IsRootUnit (graph w) u → IsTrue (list_any (has u) of)

-- one of these notes tells that a unit was scanned which refers to that of this object
abbrev pub IsScannedFor : World → Name → List Act → Type 0
IsScannedFor w of [] = ⊥
IsScannedFor w of (act.Scanned from ∷ notes) = Refers (graph w) (unit_of w from) (unit_of w of) ⊎ IsScannedFor w of notes
IsScannedFor w of (note ∷ notes) = IsScannedFor w of notes

-- each note that a unit is kept is followed by one that tells why
abbrev pub KeepsForScans : World → List Act → Type 0
KeepsForScans w [] = ⊤
KeepsForScans w (act.Kept of ∷ notes) = IsScannedFor w of notes × KeepsForScans w notes
KeepsForScans w (note ∷ notes) = KeepsForScans w notes

-- a slice keeps nothing but that to which units refer that it scans; and it is idle exactly where its budget is not spent and nothing is grey
pub record MarksAlone (s : State) (marker budget : ℕ) (reply : Marked) (notes : List Act) : Type 0 where
  pub needed : KeepsForScans s.world notes
  pub idle : (reply.stop ≡ stop.Idle) ↔ ((reply.scanned < budget) × (grey_units (run s (by (Marker marker) (act.SliceOpen ∷ notes))) ≡ []))

abbrev pub is_unfinished : Commit → Bool
is_unfinished (commit.Unfinished word bits) = true
is_unfinished _ = false

-- while a collection marks, a commit is unfinished exactly where a unit is grey, and it is never refused for stores
pub record CommitsAlone (s : State) (reply : Commit) : Type 0 where
  pub unfinished : s.world.phase ≡ Marking → IsTrue (is_unfinished reply) ↔ (grey_units s ≢ [])
  pub no_stores : reply ≢ commit.Stores

-- The entries are those of a call from this state in which nothing else ran.
abbrev pub RanAlone : State → Pass → (a : Act) → (acts : List Act) → EntriesOf a acts → Type 0
RanAlone s p (act.BeginGc begin.Started) acts e = MarksRoots s.world e.of
RanAlone s (Marker marker) (act.Slice budget reply) acts e = MarksAlone s marker budget reply e.notes
RanAlone s p (act.CommitGc reply) acts e = CommitsAlone s reply
RanAlone s (Lane lane) (act.Dissolve at count) acts e = (s.frames lane).broken ≡ []
RanAlone s p a acts e = ⊤

-- ---- solo calls

-- what a pass does in one call that this act closes, from a state, while nothing else runs
abbrev pub CallOf : State → Pass → Act → List Act → Type 0
CallOf s p a acts = (e : EntriesOf a acts) × RanAlone s p a acts e

-- A solo call: the history grows by the entries of one call that this act closes, and is still legal.
pub record Appends (z : Sizes) (old new : List Entry) (p : Pass) (a : Act) : Type 0 where
  pub acts : List Act
  pub call : CallOf (state_of old) p a acts
  pub grown : new ≡ old ++ by p acts
  pub legal : Legal z new

-- Between solo calls nothing is under way: no lane owes a store or has a unit half taken apart, no slice is open, and the collector has no step of destruction to close and no object to finish.
pub record BetweenCalls (s : State) : Type 0 where
  pub paid : (lane : ℕ) → (s.frames lane).owed ≡ None
  pub whole : (lane : ℕ) → (s.frames lane).broken ≡ []
  pub closed : IsTrue (no_slice s.world)
  pub steps : s.collector.steps ≡ 0
  pub agreed : s.collector.agreed ≡ None

-- the acts of one slice, and whose it is
pub record Slice : Type 0 where
  pub marker : ℕ
  pub acts : List Act

abbrev pub by_marker : Slice → List Entry
by_marker slice = by (Marker slice.marker) slice.acts

-- a slice that runs alone, with this budget, from a state
abbrev pub SliceAlone : State → ℕ → Marked → Slice → Type 0
SliceAlone s budget reply slice = CallOf s (Marker slice.marker) (act.Slice budget reply) slice.acts

-- slices of markers in a row: the last is idle, and the others spent their budget
abbrev pub SlicesUntilIdle : State → ℕ → List Slice → Type 0
SlicesUntilIdle s budget [] = ⊥
SlicesUntilIdle s budget (last ∷ []) = (scanned : ℕ) × SliceAlone s budget (record { scanned = scanned; stop = stop.Idle }) last
SlicesUntilIdle s budget (slice ∷ next ∷ rest) =
    (scanned : ℕ) × SliceAlone s budget (record { scanned = scanned; stop = stop.Spent }) slice × SlicesUntilIdle (run s (by_marker slice)) budget (next ∷ rest)

-- A whole collection: the history grows by its start, slices until one is idle, and its commit, and is still legal.
pub record Collects (z : Sizes) (old new : List Entry) (budget : ℕ) : Type 0 where
  pub begins : List Act
  pub slices : List Slice
  pub begun : CallOf (state_of old) Collector (act.BeginGc begin.Started) begins
  pub marked : SlicesUntilIdle (run (state_of old) (by Collector begins)) budget slices
  pub grown : new ≡ (old ++ by Collector begins) ++ (flat_map by_marker slices ++ by Collector (act.CommitGc commit.Done ∷ []))
  pub legal : Legal z new
