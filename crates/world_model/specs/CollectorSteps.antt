-- What the collector may do.
use Rattle.std.specs.Prelude.{◌≡◌, ◌≢◌, ℕ, ◌+◌, ◌<◌, ◌≤◌, min, false, not, List, [], ◌++◌, length, Option, Some, None, IsTrue, count_ones, option_and_then}
use Rattle.std.specs.List.{list_all, find}
use Rattle.world_model.specs.Types.{Name, Begin, Commit, Swept, SweepStop, Purged, Idle, Marking, Gathering, Act}
use Rattle.world_model.specs.Types.act
use Rattle.world_model.specs.Types.begin
use Rattle.world_model.specs.Types.commit
use Rattle.world_model.specs.Types.sweep
use Rattle.world_model.specs.Types.purge
use Rattle.world_model.specs.Sizes.{Sizes, item_count}
use Rattle.world_model.specs.NameLists.{has, all_different, members, first_member, after_name}
use Rattle.world_model.specs.World.{World, Removed, Begun, Finished, unit_of, is_at, polls_of, destruction_order}
use Rattle.world_model.specs.Reach.{graph, IsUnit, IsRootUnit, IsReached}
use Rattle.world_model.specs.State.{State, AtSomeMoment, is_marked, grey_units}
use Rattle.world_model.specs.LaneSteps.{IsWhite}

-- ---- begin

-- the collector, which has just started a collection, may mark a unit that was a root unit at some moment since
pub record CollectorMarks (s : State) (of : Name) : Type 0 where
  pub white : IsWhite s of
  pub started : IsTrue s.collector.started
  pub root : AtSomeMoment s.marks.moments (λ w. IsRootUnit (graph w) (unit_of s.world of))

-- a collection may start, but for open frames and slices
pub record IsIdle (s : State) : Type 0 where
  pub idle : s.world.phase ≡ Idle
  pub released : s.world.removals ≡ []

-- this many frames and slices are open, and some are
abbrev pub AreOpen : World → ℕ → Type 0
AreOpen w n = (n ≡ length w.opened) × (0 < n)

abbrev pub BeginMay : State → Begin → Type 0
BeginMay s begin.Started = IsIdle s × (s.world.opened ≡ [])
BeginMay s (begin.Running phase) = (phase ≡ s.world.phase) × (phase ≢ Idle)
BeginMay s (begin.Purging left) = (s.world.phase ≡ Idle) × (left ≡ length s.world.removals) × (0 < left)
BeginMay s (begin.Frames n) = IsIdle s × AreOpen s.world n

-- ---- commit

-- a row word shows some of the grey units, and no more than there are
pub record ShowsGrey (s : State) (bits : ℕ) : Type 0 where
  pub marking : s.world.phase ≡ Marking
  pub some : 0 < count_ones bits
  pub few : count_ones bits ≤ length (grey_units s)

-- the commit rule: no frame or slice is open, nothing is grey, and no white unit is reached
pub record Commits (s : State) : Type 0 where
  pub marking : s.world.phase ≡ Marking
  pub closed : s.world.opened ≡ []
  pub black : grey_units s ≡ []
  pub unreached : (u : List Name) → IsUnit (graph s.world) u → is_marked s.marks u ≡ false → ¬ IsReached (graph s.world) u

abbrev pub CommitMay : State → Commit → Type 0
CommitMay s commit.Done = Commits s
CommitMay s (commit.NotMarking phase) = (phase ≡ s.world.phase) × (phase ≢ Marking)
CommitMay s (commit.Unfinished word bits) = ShowsGrey s bits
CommitMay s commit.Stores = (s.world.phase ≡ Marking) × (s.world.opened ≡ []) × IsTrue s.collector.stored
CommitMay s (commit.Frames n) = (s.world.phase ≡ Marking) × AreOpen s.world n

-- ---- sweep

-- the objects that a sweep finds are removed, and none is found twice
pub record Sweeps (s : State) (budget : ℕ) (reply : Swept) (names : List Name) : Type 0 where
  pub gathering : s.world.phase ≡ Gathering
  pub within : reply.looked ≤ budget
  pub count : reply.found ≡ length names
  pub looked : length names ≤ reply.looked
  pub different : IsTrue (all_different names)
  pub removed : IsTrue (list_all (is_at s.world Removed) names)
  pub new : IsTrue (list_all (λ n. not (has s.world.found n)) names)

-- it settles at the last item, and then every removed object is found
abbrev pub SweepMay : Sizes → State → ℕ → Swept → List Name → SweepStop → Type 0
SweepMay z s budget reply names sweep.More = Sweeps s budget reply names × (s.world.swept + reply.looked < item_count z)
SweepMay z s budget reply names sweep.Settled = Sweeps s budget reply names × (s.world.swept + reply.looked ≡ item_count z)
    × IsTrue (list_all (λ r. has (s.world.found ++ names) r.name) s.world.removals)
SweepMay z s budget reply names (sweep.NotGathering phase) = (phase ≡ s.world.phase) × (phase ≢ Gathering) × (reply.looked ≡ 0) × (reply.found ≡ 0) × (names ≡ [])

-- ---- destruction: begin all, then release what is finished, and else ask in turn

-- the first object that is not begun
abbrev pub to_begin : World → Option Name
to_begin w = find (is_at w Removed) (members (destruction_order w))

-- the first member of the first unit all of whose members are finished
abbrev pub to_release : World → Option Name
to_release w = option_and_then first_member (find (list_all (is_at w Finished)) (destruction_order w))

-- behind the object that was asked last, and then from the first on
abbrev pub round_from : Option Name → List Name → List Name
round_from None names = names
round_from (Some last) names = after_name last names ++ names

-- the next object to be asked: the next one in that round that is begun and not finished
abbrev pub to_ask : State → Option Name
to_ask s = find (is_at s.world Begun) (round_from s.collector.asked (members (destruction_order s.world)))

pub record Begins (s : State) (of : Name) : Type 0 where
  pub gathered : s.world.phase ≢ Gathering
  pub next : to_begin s.world ≡ Some of

pub record Releases (s : State) (of : Name) : Type 0 where
  pub gathered : s.world.phase ≢ Gathering
  pub begun : to_begin s.world ≡ None
  pub next : to_release s.world ≡ Some of

pub record Asks (s : State) (of : Name) (poll : ℕ) : Type 0 where
  pub gathered : s.world.phase ≢ Gathering
  pub begun : to_begin s.world ≡ None
  pub waiting : to_release s.world ≡ None
  pub next : to_ask s ≡ Some of
  pub number : poll ≡ min (polls_of s.world of + 1) 65535

-- the collector's last entries were this many steps, and this many objects are not released
pub record Purges (s : State) (budget steps left : ℕ) : Type 0 where
  pub gathered : s.world.phase ≢ Gathering
  pub ran : steps ≡ s.collector.steps
  pub within : steps ≤ budget
  pub rest : left ≡ length s.world.removals
  pub early : steps < budget → left ≡ 0

abbrev pub PurgeMay : State → ℕ → Purged → Type 0
PurgeMay s budget purge.Gathering = s.world.phase ≡ Gathering
PurgeMay s budget (purge.Ran steps left) = Purges s budget steps left

-- an object that agreed is finished by the collector's next entry, and no other is
abbrev pub Finishes : Option Name → Act → Type 0
Finishes agreed (act.Finished of) = agreed ≡ Some of
Finishes agreed _ = agreed ≡ None

-- ---- all of it

-- what the collector may do, and nothing else
abbrev pub CollectorMay : Sizes → State → Act → Type 0
CollectorMay z s (act.BeginGc reply) = BeginMay s reply
CollectorMay z s (act.Kept of) = CollectorMarks s of
CollectorMay z s (act.CommitGc reply) = CommitMay s reply
CollectorMay z s (act.Sweep budget reply names) = SweepMay z s budget reply names reply.stop
CollectorMay z s (act.Begun of) = Begins s of
CollectorMay z s (act.Asked of poll answer) = Asks s of poll
CollectorMay z s (act.Finished of) = s.world.phase ≢ Gathering
CollectorMay z s (act.Released of) = Releases s of
CollectorMay z s (act.PurgeGc budget reply) = PurgeMay s budget reply
CollectorMay z s _ = ⊥
