-- What follows from the rules, in every legal history.
use Rattle.std.specs.Prelude.{◌≡◌, ◌≢◌, ◌↔◌, ℕ, ◌+◌, ◌<◌, ◌≤◌, ◌==◌, min, Bool, true, false, not, ◌||◌, if◌then◌else◌, ◌⊎◌, ⊤, List, [], ◌∷◌, ◌++◌, map, length, count_by, Option, Some, None, Result, IsTrue, Contains}
use Rattle.std.specs.List.{list_any, filter, flat_map, AllByRecursion}
use Rattle.std.specs.Option.{option_to_list}
use Rattle.world_model.specs.Types.{Name, Weak, Kind, CreateErr, Begin, Commit, Marked, SweepStop, Purged, Phase, Idle, Marking, Gathering, Pass, Lane, Marker, Collector, Act, Entry}
use Rattle.world_model.specs.Types.act
use Rattle.world_model.specs.Types.begin
use Rattle.world_model.specs.Types.commit
use Rattle.world_model.specs.Types.sweep
use Rattle.world_model.specs.Types.purge
use Rattle.world_model.specs.Sizes.{Sizes, IsLawful}
use Rattle.world_model.specs.NameLists.{same_name, same_pass, has, all_different, members, begins_with, ends_with, parted, names_from}
use Rattle.world_model.specs.World.{World, Pair, Removed, Begun, Finished, unit_of, in_world, is_given, is_open, made, live_count, removed_count, occupied, free, resolved, drawn, is_at, destruction_order}
use Rattle.world_model.specs.Reach.{Graph, graph, IsUnit, Refers, IsRootUnit, Walk, IsReached}
use Rattle.world_model.specs.State.{State, beginning, Holds, IsMarked, is_marked, is_grey, grey_units}
use Rattle.world_model.specs.Next.{lane_of, given, next}
use Rattle.world_model.specs.Histories.{May, state_of, after, Legal}
use Rattle.world_model.specs.Calls.{Appends, BetweenCalls, Collects}
use Rattle.world_model.specs.Engines.{act_of_create}
use Rattle.world_model.specs.Laws.{started, done}

-- ---- words

-- an entry of this pass
abbrev pub entry : Pass → Act → Entry
entry p a = record { pass = p; act = a }

-- the act starts a collection
abbrev pub is_start : Act → Bool
is_start (act.BeginGc begin.Started) = true
is_start _ = false

-- the act is a commit that is done
abbrev pub is_done : Act → Bool
is_done (act.CommitGc commit.Done) = true
is_done _ = false

-- none of these entries is a commit that is done
abbrev pub NoneDone : List Entry → Type 0
NoneDone entries = AllByRecursion (λ e. is_done e.act ≡ false) entries

-- the object was made
abbrev pub IsMade : World → Name → Type 0
IsMade w n = (1 ≤ n.count) × (n.count ≤ made w n.lane)

-- the object is removed and not released
abbrev pub is_removed : World → Name → Bool
is_removed w n = list_any (λ r. same_name n r.name) w.removals

-- the objects that an entry makes
abbrev pub made_by : Pass → Act → List Name
made_by p (act.Make kinds first) = names_from (lane_of p) first kinds
made_by p _ = []

-- all objects that a history makes, in order
abbrev pub names_made : List Entry → List Name
names_made history = flat_map (λ e. made_by e.pass e.act) history

-- the entry takes the last member out of this unit
abbrev pub loosens : Act → List Name → Bool
loosens (act.Loose of) u = ends_with of u
loosens _ u = false

-- the units into which an entry parts one: what is left of it, and the member that leaves it
abbrev pub parts_by : World → Act → List (List Name)
parts_by w (act.Loose of) = parted of (unit_of w of)
parts_by w _ = []

-- none of these entries takes the last member out of this unit
abbrev pub NoneLoosens : List Name → List Entry → Type 0
NoneLoosens u entries = AllByRecursion (λ e. loosens e.act u ≡ false) entries

-- the removed objects that an entry releases
abbrev pub freed_by : World → Act → List Name
freed_by w (act.Released of) = map (λ r. r.name) (filter (λ r. has (members (filter (begins_with of) w.last_removed)) r.name) w.removals)
freed_by w _ = []

-- all objects that entries release from a state on, in order
abbrev pub names_released_from : State → List Entry → List Name
names_released_from s [] = []
names_released_from s (e ∷ entries) = freed_by s.world e.act ++ names_released_from (next s e) entries

abbrev pub names_released : List Entry → List Name
names_released history = names_released_from beginning history

-- ---- what lives

-- What a lane holds lives, and its frame is open.
abbrev pub HeldLives : Type 0
HeldLives = (z : Sizes) (history : List Entry) → Legal z history → (lane : ℕ) (n : Name) → Holds (state_of history) lane n
    → IsTrue (in_world (after history) n) × IsTrue (is_open (after history) (Lane lane))

-- What an entry gives to a lane the lane then holds, with all members of its unit.
abbrev pub GivenIsHeld : Type 0
GivenIsHeld = (z : Sizes) (history : List Entry) (lane : ℕ) (a : Act) → Legal z (history ++ entry (Lane lane) a ∷ []) → (n : Name) → IsTrue (has (given lane a) n)
    → Holds (state_of (history ++ entry (Lane lane) a ∷ [])) lane n
    × ((m : Name) → IsTrue (has (unit_of (after (history ++ entry (Lane lane) a ∷ [])) n) m) → Holds (state_of (history ++ entry (Lane lane) a ∷ [])) lane m)

-- And what it holds it holds with all members of its unit.
abbrev pub HeldWithUnit : Type 0
HeldWithUnit =
    (z : Sizes) (history : List Entry) → Legal z history → (lane : ℕ) (n m : Name) → Holds (state_of history) lane n
    → IsTrue (has (unit_of (after history) n) m) → Holds (state_of history) lane m

-- what a cell of an object that lives names, what is rooted, and what a strong pointer names lives
pub record NamesLive (w : World) : Type 0 where
  pub cells : (at : Name) (slot : ℕ) (n : Name) → IsTrue (in_world w at) → w.cell at slot ≡ Some n → IsTrue (in_world w n)
  pub rooted : (n : Name) → IsTrue (w.rooted n) → IsTrue (in_world w n)
  pub strong : (lane number : ℕ) (n : Name) → w.strong lane number ≡ Some n → IsTrue (in_world w n)

abbrev pub NamedLives : Type 0
NamedLives = (z : Sizes) (history : List Entry) → Legal z history → NamesLive (after history)

-- After an entry there live the objects that it makes, and those that lived before it; after a commit, of these, those of marked units.
abbrev pub LivesAfter : Type 0
LivesAfter = (z : Sizes) (history : List Entry) (e : Entry) → Legal z (history ++ e ∷ []) → (n : Name) → IsTrue (in_world (after (history ++ e ∷ [])) n)
    ↔ (IsTrue (has (made_by e.pass e.act) n) ⊎ (IsTrue (in_world (after history) n) × (IsTrue (is_done e.act) → IsMarked (state_of history) n)))

-- a unit that stands before an entry stands after it too: it loses no member, and where the entry is a commit it is marked
pub record StaysBy (s : State) (a : Act) (u : List Name) : Type 0 where
  pub unit : IsUnit (graph s.world) u
  pub whole : loosens a u ≡ false
  pub marked : IsTrue (is_done a) → IsTrue (is_marked s.marks u)

-- After an entry the units are the one that it makes, if it makes one; the two into which it parts one, if it does; and those before it that lose no member, after a commit the marked ones of these.
abbrev pub UnitsAfter : Type 0
UnitsAfter = (z : Sizes) (history : List Entry) (e : Entry) → Legal z (history ++ e ∷ []) → (u : List Name) → IsUnit (graph (after (history ++ e ∷ []))) u
    ↔ (((made_by e.pass e.act ≢ []) × (u ≡ made_by e.pass e.act)) ⊎ Contains (parts_by (after history) e.act) u ⊎ StaysBy (state_of history) e.act u)

-- After an entry there are removed, after a commit, the objects of the units that were not marked, and those that were removed and that it does not release.
abbrev pub RemovedAfter : Type 0
RemovedAfter = (z : Sizes) (history : List Entry) (e : Entry) → Legal z (history ++ e ∷ []) → (n : Name) → IsTrue (is_removed (after (history ++ e ∷ [])) n)
    ↔ ((IsTrue (is_done e.act) × IsTrue (in_world (after history) n) × (is_marked (state_of history).marks (unit_of (after history) n) ≡ false))
    ⊎ (IsTrue (is_removed (after history) n) × (has (freed_by (after history) e.act) n ≡ false)))

-- An object that was made and does not live does not live again.
abbrev pub NoneComesBack : Type 0
NoneComesBack =
    (z : Sizes) (before more : List Entry) → Legal z (before ++ more) → (n : Name) → IsMade (after before) n → in_world (after before) n ≡ false
    → in_world (after (before ++ more)) n ≡ false

-- As long as an object lives and no member is taken out of its unit it stays in that unit.
abbrev pub UnitStays : Type 0
UnitStays = (z : Sizes) (before more : List Entry) → Legal z (before ++ more) → (n : Name) → IsTrue (in_world (after before) n) → IsTrue (in_world (after (before ++ more)) n)
    → NoneLoosens (unit_of (after before) n) more → unit_of (after (before ++ more)) n ≡ unit_of (after before) n

-- Units never grow and are never joined: what stands in one unit stood in one, if it lived.
abbrev pub UnitsNeverJoin : Type 0
UnitsNeverJoin = (z : Sizes) (before more : List Entry) → Legal z (before ++ more) → (n m : Name) → IsTrue (in_world (after before) n)
    → IsTrue (has (unit_of (after (before ++ more)) n) m) → IsTrue (has (unit_of (after before) n) m)

-- A lane alone takes the units apart that it made: while others act, an object of the lane that lives stays in its unit.
abbrev pub OwnUnitsStay : Type 0
OwnUnitsStay = (z : Sizes) (before during : List Entry) (n : Name) → Legal z (before ++ during) → AllByRecursion (λ e. e.pass ≢ Lane n.lane) during
    → IsTrue (in_world (after before) n) → IsTrue (in_world (after (before ++ during)) n) → unit_of (after (before ++ during)) n ≡ unit_of (after before) n

-- a name stands in one unit, and once; each unit has a member; and outside marking each unit counts as marked
pub record AreUnits (s : State) : Type 0 where
  pub apart : (u v : List Name) (n : Name) → IsUnit (graph s.world) u → IsUnit (graph s.world) v → IsTrue (has u n) → IsTrue (has v n) → u ≡ v
  pub once : IsTrue (all_different (members s.world.units))
  pub some : (u : List Name) → IsUnit (graph s.world) u → u ≢ []
  pub marked : s.world.phase ≢ Marking → (u : List Name) → IsUnit (graph s.world) u → IsTrue (is_marked s.marks u)

abbrev pub UnitsAreSound : Type 0
UnitsAreSound = (z : Sizes) (history : List Entry) → Legal z history → AreUnits (state_of history)

-- exactly one of these tests passes
abbrev pub ExactlyOne : List Bool → Type 0
ExactlyOne tests = count_by (λ test. test) tests ≡ 1

-- an object that was made lives, or is removed, or is released, and exactly one of these; and nothing else is anywhere
pub record IsInOnePlace (history : List Entry) (n : Name) : Type 0 where
  pub made : IsMade (after history) n → ExactlyOne (in_world (after history) n ∷ is_removed (after history) n ∷ has (names_released history) n ∷ [])
  pub only : IsTrue (in_world (after history) n || (is_removed (after history) n || has (names_released history) n)) → IsMade (after history) n

abbrev pub EachInOnePlace : Type 0
EachInOnePlace = (z : Sizes) (history : List Entry) → Legal z history → (n : Name) → IsInOnePlace history n

-- ---- marking

-- The tri-colour invariant (Dijkstra and others 1978): while a collection marks, a marked unit that is not grey refers to marked units alone.
abbrev pub BlackRefersToMarked : Type 0
BlackRefersToMarked = (z : Sizes) (history : List Entry) → Legal z history → (after history).phase ≡ Marking → (u v : List Name)
    → IsUnit (graph (after history)) u → IsUnit (graph (after history)) v → Refers (graph (after history)) u v
    → IsTrue (is_marked (state_of history).marks u) → is_grey (state_of history).marks u ≡ false → IsTrue (is_marked (state_of history).marks v)

-- each root unit is marked
abbrev pub RootsMarked : State → Type 0
RootsMarked s = (u : List Name) → IsUnit (graph s.world) u → IsRootUnit (graph s.world) u → IsTrue (is_marked s.marks u)

-- While a collection marks, where nothing is grey and each root unit is marked, each unit that is reached is marked.
abbrev pub NoWhiteReached : Type 0
NoWhiteReached = (z : Sizes) (history : List Entry) → Legal z history → (after history).phase ≡ Marking → grey_units (state_of history) ≡ [] → RootsMarked (state_of history)
    → (u : List Name) → IsReached (graph (after history)) u → IsTrue (is_marked (state_of history).marks u)

-- none of these entries starts a collection
abbrev pub NoneStarts : List Entry → Type 0
NoneStarts entries = AllByRecursion (λ e. is_start e.act ≡ false) entries

-- the entry tells that a unit with this object was scanned
abbrev pub scans : List Name → Act → Bool
scans u (act.Scanned of) = has u of
scans u _ = false

-- Since a collection has started no unit is scanned twice.
abbrev pub ScannedOnce : Type 0
ScannedOnce = (z : Sizes) (before during : List Entry) → Legal z (before ++ started ∷ during) → NoneStarts during
    → (n : Name) → IsTrue (in_world (after (before ++ started ∷ during)) n) → count_by (λ e. scans (unit_of (after (before ++ started ∷ during)) n) e.act) during ≤ 1

-- A solo start of a collection marks each root unit.
abbrev pub StartMarksRoots : Type 0
StartMarksRoots = (z : Sizes) (old new : List Entry) → Appends z old new Collector (act.BeginGc begin.Started) → RootsMarked (state_of new)

-- While a collection marks, marked root units stay marked.
abbrev pub RootsStayMarked : Type 0
RootsStayMarked = (z : Sizes) (before during : List Entry) → Legal z (before ++ during) → (after before).phase ≡ Marking → RootsMarked (state_of before)
    → NoneDone during → RootsMarked (state_of (before ++ during))

-- So behind a solo start what the commit rule says of white units follows from the rest of it: where nothing is grey, no white unit is reached.
abbrev pub CommitRuleFollows : Type 0
CommitRuleFollows = (z : Sizes) (old new during : List Entry) → Appends z old new Collector (act.BeginGc begin.Started) → Legal z (new ++ during) → NoneDone during
    → grey_units (state_of (new ++ during)) ≡ [] → (u : List Name) → is_marked (state_of (new ++ during)).marks u ≡ false → IsReached (graph (after (new ++ during))) u → ⊥

-- ---- removal

-- the entry takes the last member out of this unit: what is left of it and that member are units now
pub record IsParted (now : World) (e : Entry) (u : List Name) : Type 0 where
  pub of : Name
  pub left : List Name
  pub by : e.act ≡ act.Loose of
  pub was : u ≡ left ++ of ∷ []
  pub rest : IsUnit (graph now) left
  pub alone : IsUnit (graph now) (of ∷ [])

-- what an entry removes: a unit that is reached stays, or is parted in two that stay, so each of its members lives on; and any other one does so too, or goes whole and by a commit alone to the removed ones
pub record KeepsOrRemoves (before now : World) (e : Entry) : Type 0 where
  pub reached_stay : (u : List Name) → IsReached (graph before) u → IsUnit (graph now) u ⊎ IsParted now e u
  pub reached_live : (u : List Name) (n : Name) → IsReached (graph before) u → IsTrue (has u n) → IsTrue (in_world now n)
  pub others : (u : List Name) → IsUnit (graph before) u → IsUnit (graph now) u ⊎ IsParted now e u ⊎ ((e ≡ done) × Contains now.last_removed u)

abbrev pub ReachedStay : Type 0
ReachedStay = (z : Sizes) (history : List Entry) (e : Entry) → Legal z (history ++ e ∷ []) → KeepsOrRemoves (after history) (after (history ++ e ∷ [])) e

-- what a commit removes is whole units that lived, none of them reached; their members are removed and do not live
pub record RemovesUnreached (before now : World) : Type 0 where
  pub units : (u : List Name) → Contains now.last_removed u → IsUnit (graph before) u
  pub unreached : (u : List Name) → Contains now.last_removed u → IsReached (graph before) u → ⊥
  pub removed : (n : Name) → IsTrue (has (members now.last_removed) n) → IsTrue (is_at now Removed n) × (in_world now n ≡ false)
  pub only : (n : Name) → IsTrue (is_removed now n) → IsTrue (has (members now.last_removed) n)

abbrev pub CommitRemovesUnreached : Type 0
CommitRemovesUnreached = (z : Sizes) (history : List Entry) → Legal z (history ++ done ∷ []) → RemovesUnreached (after history) (after (history ++ done ∷ []))

-- ---- what floats

-- the object that an entry stores in a cell, the root set or a strong pointer
abbrev pub stored_by : Act → Option Name
stored_by (act.WriteRef at slot to old) = to
stored_by (act.Root at true old) = Some at
stored_by (act.SetStrong h to old) = to
stored_by _ = None

-- the objects that entries store, in order
abbrev pub names_stored : List Entry → List Name
names_stored entries = flat_map (λ e. option_to_list (stored_by e.act)) entries

-- a unit is the last of a walk that begins with the unit of one of these objects
pub record IsReachedFrom (g : Graph) (names : List Name) (u : List Name) : Type 0 where
  pub source : Name
  pub root : List Name
  pub rest : List (List Name)
  pub one : IsTrue (has names source)
  pub unit : IsUnit g root
  pub member : IsTrue (has root source)
  pub walk : Walk g root rest u

-- A unit that stands when a collection starts, and still after its commit, was reached at the start, or is reached, by the references of the start, from an object that was stored since.
abbrev pub FloatingIsBounded : Type 0
FloatingIsBounded = (z : Sizes) (before during : List Entry) → Legal z ((before ++ started ∷ during) ++ done ∷ []) → NoneDone during
    → (u : List Name) → IsUnit (graph (after before)) u → IsUnit (graph (after ((before ++ started ∷ during) ++ done ∷ []))) u
    → IsReached (graph (after before)) u ⊎ IsReachedFrom (graph (after before)) (names_stored during) u

-- So a unit that is reached in neither way is removed by that commit.
abbrev pub UnreachedIsRemoved : Type 0
UnreachedIsRemoved = (z : Sizes) (before during : List Entry) → Legal z ((before ++ started ∷ during) ++ done ∷ []) → NoneDone during
    → (u : List Name) → IsUnit (graph (after before)) u → (IsReached (graph (after before)) u → ⊥) → (IsReachedFrom (graph (after before)) (names_stored during) u → ⊥)
    → Contains (after ((before ++ started ∷ during) ++ done ∷ [])).last_removed u

-- ---- destruction

abbrev pub begins : Name → Act → Bool
begins n (act.Begun of) = same_name n of
begins n _ = false

abbrev pub finishes : Name → Act → Bool
finishes n (act.Finished of) = same_name n of
finishes n _ = false

-- how often a history begins an object, and how often it finishes it
abbrev pub times_begun : List Entry → Name → ℕ
times_begun history n = count_by (λ e. begins n e.act) history

abbrev pub times_finished : List Entry → Name → ℕ
times_finished history n = count_by (λ e. finishes n e.act) history

-- An object is begun at most once, finished at most once, and never finished before it is begun.
abbrev pub DestroyedOnce : Type 0
DestroyedOnce = (z : Sizes) (history : List Entry) → Legal z history → (n : Name)
    → (times_begun history n ≤ 1) × (times_finished history n ≤ times_begun history n)

-- so often is the object begun and finished
pub record WasDestroyed (history : List Entry) (n : Name) (begun finished : ℕ) : Type 0 where
  pub begun_is : times_begun history n ≡ begun
  pub finished_is : times_finished history n ≡ finished

-- the stage at which an object is tells how often it was begun and finished
pub record AgreesWithStage (history : List Entry) (n : Name) : Type 0 where
  pub unmade : (IsMade (after history) n → ⊥) → WasDestroyed history n 0 0
  pub living : IsTrue (in_world (after history) n) → WasDestroyed history n 0 0
  pub removed : IsTrue (is_at (after history) Removed n) → WasDestroyed history n 0 0
  pub begun : IsTrue (is_at (after history) Begun n) → WasDestroyed history n 1 0
  pub finished : IsTrue (is_at (after history) Finished n) → WasDestroyed history n 1 1
  -- it was made, does not live, and is no longer removed
  pub released : IsMade (after history) n → in_world (after history) n ≡ false → is_removed (after history) n ≡ false → WasDestroyed history n 1 1

abbrev pub DestroyedByStage : Type 0
DestroyedByStage = (z : Sizes) (history : List Entry) → Legal z history → (n : Name) → AgreesWithStage history n

-- While one object that the last commit removed is not begun, none of them is finished.
abbrev pub AllBegunFirst : Type 0
AllBegunFirst = (z : Sizes) (history : List Entry) → Legal z history → (n m : Name)
    → IsTrue (is_at (after history) Removed n) → IsTrue (has (members (after history).last_removed) m) → times_finished history m ≡ 0

-- So when one is finished, each of them was begun.
abbrev pub BegunWhenFinished : Type 0
BegunWhenFinished = (z : Sizes) (history : List Entry) (of : Name) → Legal z (history ++ entry Collector (act.Finished of) ∷ []) → (n : Name)
    → IsTrue (has (members (after history).last_removed) n) → times_begun history n ≡ 1

-- of the objects that the last commit removed and whose units are found, in the destruction order, the first ones were begun and the others were not
pub record IsBegunInOrder (history : List Entry) : Type 0 where
  pub front : List Name
  pub rest : List Name
  pub order : members (destruction_order (after history)) ≡ front ++ rest
  pub different : IsTrue (all_different (front ++ rest))
  pub begun : (n : Name) → IsTrue (has front n) → times_begun history n ≡ 1
  pub waiting : (n : Name) → IsTrue (has rest n) → times_begun history n ≡ 0

-- The objects that are begun are a beginning of the destruction order, in which no object stands twice.
abbrev pub BegunInOrder : Type 0
BegunInOrder = (z : Sizes) (history : List Entry) → Legal z history → IsBegunInOrder history

-- a release takes one removed unit, whole, and each of its members was begun once and finished once
pub record ReleasesUnit (history : List Entry) (of : Name) : Type 0 where
  pub unit : List Name
  pub is_removed_unit : Contains (after history).last_removed unit
  pub whole : (n : Name) → IsTrue (has unit n) ↔ IsTrue (has (freed_by (after history) (act.Released of)) n)
  pub destroyed : (n : Name) → IsTrue (has unit n) → WasDestroyed history n 1 1

abbrev pub ReleasedWhole : Type 0
ReleasedWhole = (z : Sizes) (history : List Entry) (of : Name) → Legal z (history ++ entry Collector (act.Released of) ∷ []) → ReleasesUnit history of

-- a history ends with an act of the collector, behind which others acted
pub record EndsWith (history : List Entry) (a : Act) : Type 0 where
  pub front : List Entry
  pub others : List Entry
  pub are : history ≡ front ++ entry Collector a ∷ others
  pub other : AllByRecursion (λ e. e.pass ≢ Collector) others

-- An object is finished directly behind its own poll, in which it agreed.
abbrev pub FinishedBehindPoll : Type 0
FinishedBehindPoll = (z : Sizes) (history : List Entry) (of : Name) → Legal z (history ++ entry Collector (act.Finished of) ∷ []) → (poll : ℕ) × EndsWith history (act.Asked of poll true)

abbrev pub asks : Name → Act → Bool
asks n (act.Asked of poll answer) = same_name n of
asks n _ = false

-- how often a history asks an object
abbrev pub times_asked : List Entry → Name → ℕ
times_asked history n = count_by (λ e. asks n e.act) history

-- The polls of an object are numbered 1, 2, 3 and so on, up to 65,535, at which the number stays.
abbrev pub PollsAreNumbered : Type 0
PollsAreNumbered =
    (z : Sizes) (history : List Entry) (of : Name) (poll : ℕ) (answer : Bool) → Legal z (history ++ entry Collector (act.Asked of poll answer) ∷ [])
    → poll ≡ min (times_asked history of + 1) 65535

-- Objects are polled in turn: between two polls of an object each other one that is begun and not finished is polled.
abbrev pub AskedInTurn : Type 0
AskedInTurn = (z : Sizes) (before during : List Entry) (of : Name) (poll next : ℕ) (answer other : Bool)
    → Legal z (((before ++ entry Collector (act.Asked of poll answer) ∷ []) ++ during) ++ entry Collector (act.Asked of next other) ∷ [])
    → (n : Name) → n ≢ of → IsTrue (is_at (after ((before ++ entry Collector (act.Asked of poll answer) ∷ []) ++ during)) Begun n) → 1 ≤ times_asked during n

-- While a collection marks, and so from its start on, every removed object is released.
abbrev pub ReleasedBeforeStart : Type 0
ReleasedBeforeStart = (z : Sizes) (history : List Entry) → Legal z history → (after history).phase ≡ Marking → (after history).removals ≡ []

-- ---- weak pointers

-- the history has an entry by which a lane gives the object this pair
pub record WasGiven (history : List Entry) (n : Name) (pair : Weak) : Type 0 where
  pub lane : ℕ
  pub given : Contains history (entry (Lane lane) (act.WeakOf n pair))

-- a pair is one object's, and an object has one pair; it gives its object exactly while that lives and is not garbage, and a pair that was never given gives none
pub record WeakPointersHold (history : List Entry) : Type 0 where
  pub one_object : (n m : Name) (pair : Weak) → WasGiven history n pair → WasGiven history m pair → n ≡ m
  pub one_pair : (n : Name) (pair other : Weak) → WasGiven history n pair → WasGiven history n other → pair ≡ other
  pub own : (n : Name) (pair : Weak) → WasGiven history n pair → resolved (after history) pair ≡ (if is_given (after history) n then Some n else None)
  pub never_given : (pair : Weak) → ((n : Name) → WasGiven history n pair → ⊥) → resolved (after history) pair ≡ None

abbrev pub WeakPointers : Type 0
WeakPointers = (z : Sizes) → IsLawful z → (history : List Entry) → Legal z history → WeakPointersHold history

-- a weak pointer gives an object: it was given for that, which lives and is not garbage
pub record Gives (history : List Entry) (pair : Weak) (n : Name) : Type 0 where
  pub given : WasGiven history n pair
  pub lives : IsTrue (in_world (after history) n)
  pub valid : (after history).garbage n ≡ false

-- A Resolve gives an object exactly where the pair was given for it, and it lives and is not garbage.
abbrev pub ResolveGives : Type 0
ResolveGives = (z : Sizes) → IsLawful z → (history : List Entry) (lane : ℕ) (pair : Weak) (got : Option Name) → Legal z (history ++ entry (Lane lane) (act.Resolve pair got) ∷ [])
    → (n : Name) → (got ≡ Some n) ↔ Gives history pair n

-- And after its removal, or after it was marked as garbage, never again.
abbrev pub ResolveGivesNoneAgain : Type 0
ResolveGivesNoneAgain =
    (z : Sizes) → IsLawful z → (before more : List Entry) (n : Name) (pair : Weak) → WasGiven before n pair
    → (in_world (after before) n ≡ false) ⊎ IsTrue ((after before).garbage n)
    → (lane : ℕ) (got : Option Name) → Legal z ((before ++ more) ++ entry (Lane lane) (act.Resolve pair got) ∷ []) → got ≡ None

-- ---- garbage

-- a lane has marked the object as garbage
pub record WasMarkedGarbage (history : List Entry) (n : Name) : Type 0 where
  pub lane : ℕ
  pub old : Bool
  pub told : Contains history (entry (Lane lane) (act.MarkGarbage n old))

-- an object is garbage exactly where a lane has marked it so; so an object is never garbage when it is made, whatever index it gets
pub record GarbageIs (history : List Entry) (n : Name) : Type 0 where
  pub marked : IsTrue ((after history).garbage n) ↔ WasMarkedGarbage history n
  pub made : IsTrue ((after history).garbage n) → IsMade (after history) n

abbrev pub GarbageIsMarked : Type 0
GarbageIsMarked = (z : Sizes) (history : List Entry) → Legal z history → (n : Name) → GarbageIs history n

-- What is garbage stays so.
abbrev pub GarbageLasts : Type 0
GarbageLasts = (z : Sizes) (before more : List Entry) → Legal z (before ++ more) → (n : Name) → IsTrue ((after before).garbage n) → IsTrue ((after (before ++ more)).garbage n)

-- the acts that change or tell what is garbage
abbrev pub is_of_garbage : Act → Bool
is_of_garbage (act.MarkGarbage at old) = true
is_of_garbage (act.IsValid at valid) = true
is_of_garbage (act.Resolve pair got) = true
is_of_garbage _ = false

-- the one state leaves of the world what the other leaves, but for what is garbage, and the same units are kept, made and scanned
pub record SameButGarbage (s t : State) : Type 0 where
  pub world : t.world ≡ record s.world { garbage = t.world.garbage }
  pub kept : t.marks.kept ≡ s.marks.kept
  pub fresh : t.marks.fresh ≡ s.marks.fresh
  pub scanned : t.marks.scanned ≡ s.marks.scanned

-- To mark an object as garbage, and to ask for it, changes nothing else: neither what is reached, nor which units are marked or grey, and so nothing of what is collected.
abbrev pub MarksChangeNothing : Type 0
MarksChangeNothing = (z : Sizes) (history : List Entry) (e : Entry) → Legal z (history ++ e ∷ []) → IsTrue (is_of_garbage e.act) → SameButGarbage (state_of history) (state_of (history ++ e ∷ []))

-- the state with other objects marked as garbage
abbrev pub with_garbage : State → (Name → Bool) → State
with_garbage s garbage = record s { world = record s.world { garbage = garbage } }

-- the entry may come exactly where it may with other objects marked as garbage, and leaves the same but for these
pub record IsApartFromGarbage (z : Sizes) (s : State) (e : Entry) (garbage : Name → Bool) : Type 0 where
  pub may : May z s e ↔ May z (with_garbage s garbage) e
  pub left : SameButGarbage (next s e) (next (with_garbage s garbage) e)
  pub frames : (next (with_garbage s garbage) e).frames ≡ (next s e).frames
  pub collector : (next (with_garbage s garbage) e).collector ≡ (next s e).collector
  pub stays : (next s e).world.garbage ≡ s.world.garbage

-- No other entry hangs on what is garbage: marking, removal and destruction go as they would without.
abbrev pub GarbageDecidesNothing : Type 0
GarbageDecidesNothing = (z : Sizes) (s : State) (e : Entry) → is_of_garbage e.act ≡ false → (garbage : Name → Bool) → IsApartFromGarbage z s e garbage

-- ---- taking a unit apart

-- the objects of some unit of so many members, this one among them, are units by themselves
pub record IsTakenApart (w : World) (at : Name) (count : ℕ) : Type 0 where
  pub unit : List Name
  pub member : IsTrue (has unit at)
  pub count_is : count ≡ length unit
  pub alone : (n : Name) → IsTrue (has unit n) → IsUnit (graph w) (n ∷ [])

-- When a lane says that it has taken a unit apart, each of its members is a unit by itself, whatever others did meanwhile.
abbrev pub TakenApart : Type 0
TakenApart = (z : Sizes) (history : List Entry) (lane : ℕ) (at : Name) (count : ℕ) → Legal z (history ++ entry (Lane lane) (act.Dissolve at count) ∷ []) → IsTakenApart (after history) at count

-- the unit of an object was taken apart: each of its members is a unit by itself, and the other units stay
pub record IsDissolved (before now : World) (at : Name) (count : ℕ) : Type 0 where
  pub count_is : count ≡ length (unit_of before at)
  pub alone : (n : Name) → IsTrue (has (unit_of before at) n) → (unit_of now n ≡ n ∷ []) × IsUnit (graph now) (n ∷ [])
  pub others : (u : List Name) → IsUnit (graph before) u → has u at ≡ false → IsUnit (graph now) u

-- In a solo call that is the unit in which the object stood.
abbrev pub DissolvesUnit : Type 0
DissolvesUnit = (z : Sizes) (old new : List Entry) (lane : ℕ) (at : Name) (count : ℕ) → Appends z old new (Lane lane) (act.Dissolve at count) → IsDissolved (after old) (after new) at count

-- a lane may ask for the unit of an object to be taken apart: it holds the object, which is its own, and no call of it is under way
pub record MayAsk (s : State) (lane : ℕ) (at : Name) : Type 0 where
  pub held : Holds s lane at
  pub own : at.lane ≡ lane
  pub none_owed : (s.frames lane).owed ≡ None
  pub none_broken : (s.frames lane).broken ≡ []

-- some call closes with this act
pub record CanAppend (z : Sizes) (old : List Entry) (p : Pass) (a : Act) : Type 0 where
  pub new : List Entry
  pub call : Appends z old new p a

-- It is never refused but while a collection marks: outside marking some solo call takes the unit apart, and in it one is refused.
pub record Answers (z : Sizes) (history : List Entry) (lane : ℕ) (at : Name) : Type 0 where
  pub apart : (after history).phase ≢ Marking → CanAppend z history (Lane lane) (act.Dissolve at (length (unit_of (after history) at)))
  pub refused : (after history).phase ≡ Marking → CanAppend z history (Lane lane) (act.NoDissolve at)

abbrev pub DissolveAnswers : Type 0
DissolveAnswers = (z : Sizes) (history : List Entry) (lane : ℕ) (at : Name) → Legal z history → lane < z.lanes → MayAsk (state_of history) lane at → Answers z history lane at

-- An object that is a unit by itself is one as long as it lives.
abbrev pub StaysAlone : Type 0
StaysAlone = (z : Sizes) (before more : List Entry) → Legal z (before ++ more) → (n : Name) → unit_of (after before) n ≡ n ∷ [] → IsTrue (in_world (after (before ++ more)) n)
    → unit_of (after (before ++ more)) n ≡ n ∷ []

-- So when a unit was taken apart, a whole collection keeps those of its members that are reached each by itself, and no others.
abbrev pub CollectedSingly : Type 0
CollectedSingly = (z : Sizes) (old mid more new : List Entry) (lane : ℕ) (at : Name) (count budget : ℕ) → Appends z old mid (Lane lane) (act.Dissolve at count) → Collects z (mid ++ more) new budget
    → (n : Name) → IsTrue (has (unit_of (after old) at) n) → IsTrue (in_world (after (mid ++ more)) n) → IsTrue (in_world (after new) n) ↔ IsReached (graph (after (mid ++ more))) (n ∷ [])

-- ---- frames

-- the phase stays, or goes from Gathering to Idle
abbrev pub PhaseStays : Phase → Phase → Type 0
PhaseStays old new = (new ≡ old) ⊎ ((old ≡ Gathering) × (new ≡ Idle))

-- the entry closes the frame or slice of this pass
abbrev pub Closes : Pass → Entry → Type 0
Closes p e = (e.pass ≡ p) × ((e.act ≡ act.FrameClose) ⊎ ((budget : ℕ) × (reply : Marked) × (e.act ≡ act.Slice budget reply)))

-- what stays while a frame or slice is open: no collection starts and none commits, the phase stays but for the end of gathering, and each object that lives stays so, in its unit as long as no member is taken out of that
pub record IsKeptOpen (p : Pass) (before now : World) (during : List Entry) : Type 0 where
  pub opened : IsTrue (is_open now p)
  pub starts : count_by (λ e. is_start e.act) during ≡ 0
  pub commits : count_by (λ e. is_done e.act) during ≡ 0
  pub phase : PhaseStays before.phase now.phase
  pub lives : (n : Name) → IsTrue (in_world before n) → IsTrue (in_world now n)
  pub units : (n : Name) → IsTrue (in_world before n) → NoneLoosens (unit_of before n) during → unit_of now n ≡ unit_of before n

abbrev pub OpenKeeps : Type 0
OpenKeeps = (z : Sizes) (before during : List Entry) (p : Pass) → Legal z (before ++ during) → IsTrue (is_open (after before) p)
    → AllByRecursion (λ e. Closes p e → ⊥) during → IsKeptOpen p (after before) (after (before ++ during)) during

-- what is a lane's own
pub record IsOwn (lane : ℕ) (old new : State) : Type 0 where
  pub frame : new.frames lane ≡ old.frames lane
  pub kinds : new.world.kinds lane ≡ old.world.kinds lane
  pub strong : (number : ℕ) → new.world.strong lane number ≡ old.world.strong lane number
  pub drawn_is : drawn new.world lane ≡ drawn old.world lane
  pub opened : is_open new.world (Lane lane) ≡ is_open old.world (Lane lane)

-- What is a lane's own stays while others act,
abbrev pub OwnStays : Type 0
OwnStays = (z : Sizes) (before during : List Entry) (lane : ℕ) → Legal z (before ++ during) → AllByRecursion (λ e. e.pass ≢ Lane lane) during
    → IsOwn lane (state_of before) (state_of (before ++ during))

-- and this is so from one stretch to the next.
abbrev pub OwnJoins : Type 0
OwnJoins = (lane : ℕ) (s t u : State) → IsOwn lane s t → IsOwn lane t u → IsOwn lane s u

-- a pass of the shape that may have a frame or a slice open
abbrev pub IsActor : Sizes → Pass → Type 0
IsActor z (Lane lane) = lane < z.lanes
IsActor z (Marker marker) = marker < z.markers
IsActor z Collector = ⊥

-- open frames and slices are of lanes and markers of the shape, each once, and so at most as many as there are of these
pub record AreActors (z : Sizes) (opened : List Pass) : Type 0 where
  pub actors : (p : Pass) → Contains opened p → IsActor z p
  pub once : (p : Pass) → count_by (same_pass p) opened ≤ 1
  pub few : length opened ≤ z.lanes + z.markers

abbrev pub FewOpen : Type 0
FewOpen = (z : Sizes) (history : List Entry) → Legal z history → AreActors z (after history).opened

-- ---- quotas

-- the free indexes of a lane are its quota less its objects that live or are removed, which are those that were made and not released
pub record KeepsQuota (z : Sizes) (history : List Entry) (lane : ℕ) : Type 0 where
  pub free_is : free z (after history) lane + occupied (after history) lane ≡ z.quota
  pub occupied_is : occupied (after history) lane + count_by (λ n. n.lane == lane) (names_released history) ≡ made (after history) lane
  pub names : made (after history) lane ≤ z.names
  pub serials : drawn (after history) lane ≤ z.serials

abbrev pub QuotasHold : Type 0
QuotasHold = (z : Sizes) (history : List Entry) → Legal z history → (lane : ℕ) → KeepsQuota z history lane

-- So the numbers of a census add up: of each lane the indexes that are free, the objects that live, and those that are removed and not released are the quota together.
abbrev pub CensusAddsUp : Type 0
CensusAddsUp = (z : Sizes) (history : List Entry) → Legal z history → (lane : ℕ) → free z (after history) lane + live_count (after history) lane + removed_count (after history) lane ≡ z.quota

-- no name is given twice, and a name is given exactly where the object was made
pub record GivesNamesOnce (history : List Entry) : Type 0 where
  pub once : IsTrue (all_different (names_made history))
  pub made : (n : Name) → IsTrue (has (names_made history) n) ↔ IsMade (after history) n

abbrev pub NamesOnce : Type 0
NamesOnce = (z : Sizes) (history : List Entry) → Legal z history → GivesNamesOnce history

-- No serial is given to two objects: it is 16 times a count and the lane, and a lawful shape has at most 8 lanes.
abbrev pub SerialsOnce : Type 0
SerialsOnce = (z : Sizes) → IsLawful z → (history : List Entry) → Legal z history → (p q : Pair)
    → Contains (after history).pairs p → Contains (after history).pairs q → p.weak.serial ≡ q.weak.serial → p ≡ q

-- ---- answers

abbrev pub is_started : Begin → Bool
is_started begin.Started = true
is_started _ = false

abbrev pub is_committed : Commit → Bool
is_committed commit.Done = true
is_committed _ = false

abbrev pub is_not_gathering : SweepStop → Bool
is_not_gathering (sweep.NotGathering phase) = true
is_not_gathering _ = false

abbrev pub is_gathering : Purged → Bool
is_gathering purge.Gathering = true
is_gathering _ = false

-- the act tells that a call was refused
abbrev pub is_refusal : Act → Bool
is_refusal (act.Full asked left) = true
is_refusal (act.NamesSpent asked left) = true
is_refusal (act.NoSerial at count) = true
is_refusal (act.NoDissolve at) = true
is_refusal (act.BeginGc reply) = not (is_started reply)
is_refusal (act.CommitGc reply) = not (is_committed reply)
is_refusal (act.Sweep budget reply names) = is_not_gathering reply.stop
is_refusal (act.PurgeGc budget reply) = is_gathering reply
is_refusal _ = false

-- A refusal leaves the world as it was.
abbrev pub RefusalsChangeNothing : Type 0
RefusalsChangeNothing = (z : Sizes) (history : List Entry) (e : Entry) → Legal z (history ++ e ∷ []) → IsTrue (is_refusal e.act) → after (history ++ e ∷ []) ≡ after history

-- A solo call leaves nothing under way: where nothing was before it, nothing is after it.
abbrev pub CallsEnd : Type 0
CallsEnd = (z : Sizes) (old new : List Entry) (p : Pass) (a : Act) → Appends z old new p a → BetweenCalls (state_of old) → BetweenCalls (state_of new)

-- What the collector is told when it asks for a start is decided by the world: no two answers can come next.
abbrev pub BeginIsDecided : Type 0
BeginIsDecided = (z : Sizes) (history : List Entry) (a b : Begin) → Legal z (history ++ entry Collector (act.BeginGc a) ∷ []) → Legal z (history ++ entry Collector (act.BeginGc b) ∷ []) → a ≡ b

-- two answers to a commit are one, but for the row word that shows some of the grey units
abbrev pub SameCommit : Commit → Commit → Type 0
SameCommit (commit.Unfinished word bits) (commit.Unfinished other others) = ⊤
SameCommit a b = a ≡ b

-- So is what a commit that runs alone is told.
abbrev pub CommitIsDecided : Type 0
CommitIsDecided = (z : Sizes) (old new other : List Entry) (a b : Commit) → Appends z old new Collector (act.CommitGc a) → Appends z old other Collector (act.CommitGc b) → SameCommit a b

-- And so is whether objects of these kinds are made, and why not.
abbrev pub CreateIsDecided : Type 0
CreateIsDecided = (z : Sizes) (history : List Entry) (lane : ℕ) (kinds : List Kind) (a b : Result (Unit {0}) CreateErr)
    → Legal z (history ++ entry (Lane lane) (act_of_create (after history) lane kinds a) ∷ []) → Legal z (history ++ entry (Lane lane) (act_of_create (after history) lane kinds b) ∷ []) → a ≡ b

-- ---- the headline

-- an object that lived lives no more: the entry is a commit, no root reached the object's unit, and that goes whole to the removed ones
pub record IsRemovedWhole (before now : World) (e : Entry) (n : Name) : Type 0 where
  pub commit : e ≡ done
  pub unreached : IsReached (graph before) (unit_of before n) → ⊥
  pub listed : Contains now.last_removed (unit_of before n)
  pub gone : (m : Name) → IsTrue (has (unit_of before n) m) → in_world now m ≡ false

-- A collection removes only whole units that no root reaches, each removed object is begun at most once and then finished at most once, and a weak pointer gives its own object until its removal or marking as garbage and nothing after.
pub record Headline (z : Sizes) (history : List Entry) : Type 0 where
  -- each object that lives does so after an entry too, or that is a commit, and its whole unit, which no root reached, goes
  pub removes : (e : Entry) → Legal z (history ++ e ∷ []) → (n : Name) → IsTrue (in_world (after history) n)
      → IsTrue (in_world (after (history ++ e ∷ [])) n) ⊎ IsRemovedWhole (after history) (after (history ++ e ∷ [])) e n
  -- what has left the world never comes back
  pub gone : (more : List Entry) → Legal z (history ++ more) → (n : Name) → IsMade (after history) n → in_world (after history) n ≡ false → in_world (after (history ++ more)) n ≡ false
  -- what lives was neither begun nor finished; what is removed is begun at most once, and finished at most once and not before
  pub spares : (n : Name) → IsTrue (in_world (after history) n) → WasDestroyed history n 0 0
  pub destroys : (n : Name) → (times_begun history n ≤ 1) × (times_finished history n ≤ times_begun history n)
  -- a weak pointer gives an object exactly where it was given for that, and that lives and is not garbage
  pub resolves : (lane : ℕ) (pair : Weak) (got : Option Name) → Legal z (history ++ entry (Lane lane) (act.Resolve pair got) ∷ [])
      → (n : Name) → (got ≡ Some n) ↔ Gives history pair n
  -- and once that is removed or garbage, never again
  pub never_again : (more : List Entry) (n : Name) (pair : Weak) → WasGiven history n pair → (in_world (after history) n ≡ false) ⊎ IsTrue ((after history).garbage n)
      → (lane : ℕ) (got : Option Name) → Legal z ((history ++ more) ++ entry (Lane lane) (act.Resolve pair got) ∷ []) → got ≡ None

abbrev pub HeadlineHolds : Type 0
HeadlineHolds = (z : Sizes) → IsLawful z → (history : List Entry) → Legal z history → Headline z history
