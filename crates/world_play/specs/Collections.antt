-- What a command of the collector is: one relation of its entries and its reply, given the state before.
use Rattle.std.specs.Prelude.{◌≡◌, ℕ, ◌*◌, ◌-◌, ◌<◌, min, nat_lt, Bool, false, ◌&&◌, ◌⊎◌, List, [], ◌∷◌, ◌++◌, length, flat_map}
use Rattle.std.specs.List.{AllByRecursion}
use Rattle.world_model.specs.World.{World, left_of}
use Rattle.world_model.specs.Hooks.{class_of}
use Rattle.world_model.specs.State.{State}
use Rattle.world_model.specs.Next.{run}
use Rattle.world_model.specs.Calls.{by, CallOf, Slice, by_marker, SliceAlone, SlicesUntilIdle}
use Rattle.class_schema.specs.Class.{Schema}
use Rattle.class_schema.specs.Table.{kind_of}
use Rattle.world_play.specs.Types.{Name, ClassId, Ready, Begin, Swept, Collector, Act, Entry, Reply, GcCmd}
use Rattle.world_play.specs.Types.act
use Rattle.world_play.specs.Types.begin
use Rattle.world_play.specs.Types.purge
use Rattle.world_play.specs.Types.ready
use Rattle.world_play.specs.Types.commit
use Rattle.world_play.specs.Types.stop
use Rattle.world_play.specs.Types.sweep
use Rattle.world_play.specs.Types.reply
use Rattle.world_play.specs.Types.gc_cmd
use Rattle.world_play.specs.Header.{Header}
use Rattle.world_play.specs.Lanes.{OneCall}
use Rattle.world_play.specs.Text.{in_name_order}

-- ---- a whole collection

-- sweeps in a row that stopped for their budget
abbrev pub SweepsMore : ℕ → List Act → Type 0
SweepsMore budget [] = Unit {0}
SweepsMore budget (act.Sweep b r names ∷ rest) = (b ≡ budget) × (r.stop ≡ sweep.More) × (r.looked ≡ budget) × SweepsMore budget rest
SweepsMore budget (a ∷ rest) = ⊥

-- sweeps in a row of which the last settled, and the others stopped for their budget
pub record SweepsAll (budget : ℕ) (sweeps : List Act) : Type 0 where
  pub more : List Act
  pub last : Swept
  pub late : List Name
  pub stopped : SweepsMore budget more
  pub settled : last.stop ≡ sweep.Settled
  pub are : sweeps ≡ more ++ act.Sweep budget last late ∷ []

-- these slices are of marker 0
abbrev pub AreOfFirst : List Slice → Type 0
AreOfFirst slices = AllByRecursion (λ slice. slice.marker ≡ 0) slices

-- slices of marker 0 in a row: the last is idle, and the others spent their budget
pub record MarksUntilIdle (s : State) (budget : ℕ) (slices : List Slice) : Type 0 where
  pub idle : SlicesUntilIdle s budget slices
  pub own : AreOfFirst slices

-- a collection was begun, slices marked until one was idle, it was committed, and these sweeps followed
abbrev pub Sweeping : List Act → List Slice → List Act → List Entry → Type 0
Sweeping begins slices sweeps piece = piece ≡ ((by Collector begins ++ flat_map by_marker slices) ++ by Collector (act.CommitGc commit.Done ∷ [])) ++ by Collector sweeps

-- whether a class is ready when it is asked for the `poll`-th time: it is one of the table, and that is more than the polls that it refuses
abbrev pub is_after : Ready → ℕ → Bool
is_after (ready.After n) poll = nat_lt n poll
is_after ready.Never poll = false

abbrev pub is_ready : Schema → ClassId → ℕ → Bool
is_ready t class poll = nat_lt class.0 (length t.classes) && is_after (kind_of t class).ready poll

-- an object that is asked answers as its class does
abbrev pub AnswersBy : Header → World → Act → Type 0
AnswersBy header w (act.Asked of poll answer) = answer ≡ is_ready header.classes (class_of w of) poll
AnswersBy header w a = Unit {0}

-- purges in a row until no removed object is left, or they have made so many steps together; none may make more than are left to that bound
unfoldable pub PurgesAll : ℕ → Header → ℕ → State → List (List Act) → Type 0
PurgesAll budget header bound s [] = (left_of s.world ≡ 0) ⊎ (bound ≡ 0)
PurgesAll budget header bound s (acts ∷ rest) =
    (0 < left_of s.world) × (0 < bound)
    × ((steps : ℕ) × (left : ℕ) × CallOf s Collector (act.PurgeGc (min budget bound) (purge.Ran steps left)) acts
    × AllByRecursion (AnswersBy header s.world) acts × PurgesAll budget header (bound - steps) (run s (by Collector acts)) rest)

-- a whole collection ran: it began, slices marked until one was idle, it was committed, sweeps found what it removed, and purges destroyed it, with at most 103 steps for each removed object
pub record Collected (budget : ℕ) (header : Header) (s : State) (piece : List Entry) : Type 0 where
  pub begins : List Act
  pub slices : List Slice
  pub sweeps : List Act
  pub purges : List (List Act)
  pub front : List Entry
  pub begun : CallOf s Collector (act.BeginGc begin.Started) begins
  pub marked : MarksUntilIdle (run s (by Collector begins)) budget slices
  pub swept : SweepsAll budget sweeps
  pub found : Sweeping begins slices sweeps front
  pub purged : PurgesAll budget header (103 * length (run s front).world.found) (run s front) purges
  pub are : piece ≡ front ++ flat_map (by Collector) purges

-- ---- commands

-- why no collection began
abbrev pub RefusesBegin : Begin → Reply → Type 0
RefusesBegin begin.Started r = ⊥
RefusesBegin (begin.Running phase) r = r ≡ reply.Running phase
RefusesBegin (begin.Purging left) r = r ≡ reply.Purging left
RefusesBegin (begin.Frames n) r = r ≡ reply.Pending n

-- what is told of a whole collection by the world that it leaves: the removed objects that it found, in the order of their names
abbrev pub told_full : World → Reply
told_full w = reply.FullGc (length w.found) (left_of w) (in_name_order w.found)

-- from a state the command has these entries and this reply
abbrev pub GcTurn : ℕ → Header → State → GcCmd → List Entry → Reply → Type 0
GcTurn budget header s gc_cmd.Full piece r =
    ((why : Begin) × OneCall s Collector (act.BeginGc why) piece × RefusesBegin why r)
    ⊎ (Collected budget header s piece × (r ≡ told_full (run s piece).world))

-- ---- a command that is not played to its end

-- slices of marker 0 in a row that spent their budget
abbrev pub SlicesSpent : State → ℕ → List Slice → Type 0
SlicesSpent s budget [] = Unit {0}
SlicesSpent s budget (slice ∷ rest) =
    (slice.marker ≡ 0) × ((scanned : ℕ) × SliceAlone s budget (record { scanned = scanned; stop = stop.Spent }) slice × SlicesSpent (run s (by_marker slice)) budget rest)

-- some calls of a whole collection, from the first on: its start and some slices; or its start, all slices, its commit and some sweeps, or all of them
pub record CollectedSome (budget : ℕ) (s : State) (part : List Entry) : Type 0 where
  pub begins : List Act
  pub slices : List Slice
  pub begun : CallOf s Collector (act.BeginGc begin.Started) begins
  pub calls : (SlicesSpent (run s (by Collector begins)) budget slices × (part ≡ by Collector begins ++ flat_map by_marker slices))
      ⊎ (MarksUntilIdle (run s (by Collector begins)) budget slices × (part ≡ by Collector begins ++ flat_map by_marker slices))
      ⊎ ((sweeps : List Act) × MarksUntilIdle (run s (by Collector begins)) budget slices × (SweepsMore budget sweeps ⊎ SweepsAll budget sweeps) × Sweeping begins slices sweeps part)

-- from a state the entries are those of some of the command's calls, from the first on, or of none
abbrev pub GcPart : ℕ → State → GcCmd → List Entry → Type 0
GcPart budget s gc_cmd.Full part = (part ≡ []) ⊎ CollectedSome budget s part
