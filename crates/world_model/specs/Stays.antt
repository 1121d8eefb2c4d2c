-- What else holds of every legal history, for those who keep a world by parts: where something may stand, what stays, and what each pass leaves to the others.
use Rattle.std.specs.Prelude.{◌≡◌, ◌≢◌, ℕ, ◌<◌, Bool, false, not, if◌then◌else◌, List, [], ◌∷◌, ◌++◌, Some, IsTrue, Contains}
use Rattle.std.specs.List.{AllByRecursion}
use Rattle.world_model.specs.Types.{Name, Kind, Marking, Gathering, Pass, Lane, Marker, Collector, Act, Entry}
use Rattle.world_model.specs.Sizes.{Sizes}
use Rattle.world_model.specs.NameLists.{has}
use Rattle.world_model.specs.World.{World, Pair, Removal, Removed, is_open, kind_of, refs_of}
use Rattle.world_model.specs.State.{State, is_marked}
use Rattle.world_model.specs.Histories.{Legal, state_of, after}
use Rattle.world_model.specs.Follows.{IsMade, is_start, NoneStarts, NoneDone, NoneLoosens, Closes}

-- ---- where something stands

-- what names an object is a reference cell of an object that was made, or a strong pointer of the shape
pub record NamesFromPlaces (z : Sizes) (w : World) : Type 0 where
  pub cells : (at : Name) (slot : ℕ) (n : Name) → w.cell at slot ≡ Some n → IsMade w at × (slot < refs_of w at)
  pub strong : (lane number : ℕ) (n : Name) → w.strong lane number ≡ Some n → (lane < z.lanes) × (number < z.strong)

abbrev pub NamedFromPlaces : Type 0
NamedFromPlaces = (z : Sizes) (history : List Entry) → Legal z history → NamesFromPlaces z (after history)

-- what was not made has no number in a cell, no pair and no note, and was not removed by the last commit
pub record OfMade (s : State) : Type 0 where
  pub plain : (n : Name) (slot : ℕ) → (IsMade s.world n → ⊥) → s.world.plain n slot ≡ 0
  pub pairs : (p : Pair) → Contains s.world.pairs p → IsMade s.world p.name
  pub kept : (n : Name) → IsTrue (has s.marks.kept n) → IsMade s.world n
  pub fresh : (n : Name) → IsTrue (has s.marks.fresh n) → IsMade s.world n
  pub scanned : (n : Name) → IsTrue (has s.marks.scanned n) → IsMade s.world n
  pub removed : (u : List Name) (n : Name) → Contains s.world.last_removed u → IsTrue (has u n) → IsMade s.world n

abbrev pub OnlyOfMade : Type 0
OnlyOfMade = (z : Sizes) (history : List Entry) → Legal z history → OfMade (state_of history)

-- While the removed objects are being found none of them is begun, and none was asked.
abbrev pub BegunBehindGathering : Type 0
BegunBehindGathering = (z : Sizes) (history : List Entry) → Legal z history → (after history).phase ≡ Gathering → (r : Removal) → Contains (after history).removals r → (r.stage ≡ Removed) × (r.polls ≡ 0)

-- the newest of these moments is the world now
abbrev pub IsNewest : World → List World → Type 0
IsNewest now [] = ⊥
IsNewest now (newest ∷ earlier) = newest ≡ now

-- the newest moment of an open slice is the world now, and so is that of a collection that marks
pub record EndNow (s : State) : Type 0 where
  pub slices : (marker : ℕ) → IsTrue (is_open s.world (Marker marker)) → IsNewest s.world (s.slices marker).moments
  pub marks : s.world.phase ≡ Marking → IsNewest s.world s.marks.moments

abbrev pub MomentsEndNow : Type 0
MomentsEndNow = (z : Sizes) (history : List Entry) → Legal z history → EndNow (state_of history)

-- ---- what stays

-- An object that was made keeps its kind.
abbrev pub KindsStay : Type 0
KindsStay = (z : Sizes) (before more : List Entry) → Legal z (before ++ more) → (n : Name) (k : Kind) → kind_of (after before) n ≡ Some k → kind_of (after (before ++ more)) n ≡ Some k

-- What is marked stays marked until a collection starts.
abbrev pub MarkedStays : Type 0
MarkedStays = (z : Sizes) (before during : List Entry) → Legal z (before ++ during) → NoneStarts during → (u : List Name)
    → IsTrue (is_marked (state_of before).marks u) → IsTrue (is_marked (state_of (before ++ during)).marks u)

-- a collection marks still, and no unit has lost a member
pub record StillMarks (now : World) (during : List Entry) : Type 0 where
  pub phase : now.phase ≡ Marking
  pub whole : (u : List Name) → NoneLoosens u during

-- A collection marks until it commits, and meanwhile no unit is taken apart.
abbrev pub MarkingLasts : Type 0
MarkingLasts = (z : Sizes) (before during : List Entry) → Legal z (before ++ during) → (after before).phase ≡ Marking → NoneDone during → StillMarks (after (before ++ during)) during

-- What a lane owes it owes in its open frame, while a collection marks.
abbrev pub OwedInMarking : Type 0
OwedInMarking = (z : Sizes) (history : List Entry) → Legal z history → (lane : ℕ) (n : Name) → ((state_of history).frames lane).owed ≡ Some n
    → IsTrue (is_open (after history) (Lane lane)) × ((after history).phase ≡ Marking)

-- ---- the parity

-- the parity turns with each collection that starts
abbrev pub turned_by : Bool → Act → Bool
turned_by parity a = if is_start a then not parity else parity

abbrev pub parity_from : Bool → List Entry → Bool
parity_from parity [] = parity
parity_from parity (e ∷ entries) = parity_from (turned_by parity e.act) entries

-- whether the number of collections that a history started is odd
abbrev pub parity_of : List Entry → Bool
parity_of history = parity_from false history

-- One more entry turns it where that starts a collection.
abbrev pub ParityTurns : Type 0
ParityTurns = (history : List Entry) (e : Entry) → parity_of (history ++ e ∷ []) ≡ turned_by (parity_of history) e.act

-- it stays where no collection starts, where others than the collector act, and while a frame or slice is open
pub record KeepsParity (before during : List Entry) : Type 0 where
  pub unstarted : NoneStarts during → parity_of (before ++ during) ≡ parity_of before
  pub others : AllByRecursion (λ e. e.pass ≢ Collector) during → parity_of (before ++ during) ≡ parity_of before
  pub opened : (p : Pass) → IsTrue (is_open (after before) p) → AllByRecursion (λ e. Closes p e → ⊥) during → parity_of (before ++ during) ≡ parity_of before

abbrev pub ParityStays : Type 0
ParityStays = (z : Sizes) (before during : List Entry) → Legal z (before ++ during) → KeepsParity before during

-- ---- what others leave

-- what is the collector's own
pub record IsCollectors (old new : State) : Type 0 where
  pub phase : new.world.phase ≡ old.world.phase
  pub removals : new.world.removals ≡ old.world.removals
  pub last_removed : new.world.last_removed ≡ old.world.last_removed
  pub found : new.world.found ≡ old.world.found
  pub swept : new.world.swept ≡ old.world.swept
  pub started : new.collector.started ≡ old.collector.started
  pub shading : new.collector.shading ≡ old.collector.shading
  pub steps : new.collector.steps ≡ old.collector.steps
  pub asked : new.collector.asked ≡ old.collector.asked
  pub agreed : new.collector.agreed ≡ old.collector.agreed

-- What is the collector's own stays while others act.
abbrev pub CollectorsStay : Type 0
CollectorsStay = (z : Sizes) (before during : List Entry) → Legal z (before ++ during) → AllByRecursion (λ e. e.pass ≢ Collector) during
    → IsCollectors (state_of before) (state_of (before ++ during))

-- what is a marker's own; the moments of its slice are those that were, and more
pub record IsMarkers (marker : ℕ) (old new : State) : Type 0 where
  pub opened : is_open new.world (Marker marker) ≡ is_open old.world (Marker marker)
  pub scanned : (new.slices marker).scanned ≡ (old.slices marker).scanned
  pub moments : (w : World) → Contains (old.slices marker).moments w → Contains (new.slices marker).moments w

-- What is a marker's own stays while others act.
abbrev pub MarkersStay : Type 0
MarkersStay = (z : Sizes) (before during : List Entry) (marker : ℕ) → Legal z (before ++ during) → AllByRecursion (λ e. e.pass ≢ Marker marker) during
    → IsMarkers marker (state_of before) (state_of (before ++ during))
