-- The laws of the machine.
use Rattle.std.specs.Prelude.{◌≡◌, ℕ, ◌<◌, ◌≤◌, ◌+◌, Bool, true, false, List, ◌++◌, Some, None}
use Rattle.mark_core.specs.Changes.{has}
use Rattle.mark_core.specs.Machine.{Marking, Actor, Marker, Collector, Nowhere, Sizes, Core, frames}
use Rattle.mark_core.specs.Steps.{Step, FrameOpen, FrameClose, CommitExchange, is_live, Allowed, AllAllowed, after_step, run}
use Rattle.mark_core.specs.Lawful.{Lawful}
use Rattle.mark_core.specs.Makes.{makes, AreFresh, clears, loosens}
use Rattle.mark_core.specs.Progress.{scanned_by, scans}
use Rattle.mark_core.specs.Reach.{graph, IsReached}
use Rattle.mark_core.specs.Start.{start, bare}

-- after every list of allowed events the machine is lawful
abbrev pub StaysLawful : Type 0
StaysLawful = (z : Sizes) (cells : ℕ → List ℕ) (events : List (Actor × Step)) → AllAllowed z (start z cells) events → Lawful z (run z (start z cells) events)

-- after every list of allowed events no unit was scanned twice since the last marking began
abbrev pub ScannedOnce : Type 0
ScannedOnce = (z : Sizes) (cells : ℕ → List ℕ) (u : ℕ) (events : List (Actor × Step)) → AllAllowed z (start z cells) events → scans z (start z cells) u 0 events ≤ 1

-- A commit exchange that finds no frame and a clean gate
pub record Commits (z : Sizes) (c : Core) : Type 0 where
  pub may : Allowed z c Collector CommitExchange
  pub no_frame : frames z c ≡ 0
  pub clean : c.dirty ≡ false

-- nothing is grey then, and each unit that is reached is marked and in the world
pub record CommitIsRight (c : Core) : Type 0 where
  pub none_grey : (u : ℕ) → c.place u ≡ Nowhere
  pub reached : (u : ℕ) → IsReached (graph c) u → (c.marked u ≡ true) × (c.doomed u ≡ false)

-- from every lawful machine on
abbrev pub CommitsAreRight : Type 0
CommitsAreRight = (z : Sizes) (c : Core) → Commits z c → Lawful z c → CommitIsRight c

-- When a scan ends, all that the unit's cells name is marked
abbrev pub ScanCloses : Type 0
ScanCloses = (z : Sizes) (c : Core) (m : ℕ) (e : Step) (u : ℕ) → Allowed z c (Marker m) e → Lawful z c → scanned_by c (Marker m) e ≡ Some u
    → (k v : ℕ) → has (c.cells u) k ≡ true → c.cell k ≡ Some v → (after_step z c (Marker m) e).marked v ≡ true

-- A machine after an open lane made a unit at a place without one
pub record IsMade (z : Sizes) (c d : Core) (u : ℕ) (cells : List ℕ) : Type 0 where
  pub lawful : Lawful z d
  -- nothing named the place
  pub no_root : (p : ℕ) → d.root p ≡ Some u → ⊥
  pub no_cell : (v k : ℕ) → is_live c.phase c.doomed c.marked v ≡ true → has (c.cells v) k ≡ true → c.cell k ≡ Some u → ⊥
  -- its cells are empty, and where they are fresh those of other units stay as they were
  pub empty : (k : ℕ) → has cells k ≡ true → d.cell k ≡ None
  pub others : AreFresh c cells → (v k : ℕ) → c.doomed v ≡ false → has (c.cells v) k ≡ true → (d.cell k ≡ c.cell k) × (has (d.cells v) k ≡ true)

abbrev pub MakingIsLawful : Type 0
MakingIsLawful = (z : Sizes) (c : Core) (lane u : ℕ) (cells : List ℕ) → c.lane_open lane ≡ true → u < z.units → c.doomed u ≡ true → Lawful z c → IsMade z c (makes c lane u cells) u cells

-- the cells of a doomed unit may be emptied, and its place left without them, in one step or in several
abbrev pub ClearingIsLawful : Type 0
ClearingIsLawful = (z : Sizes) (c : Core) (u : ℕ) (gone left : List ℕ) → c.doomed u ≡ true → Lawful z c → Lawful z (clears c u gone left)

-- outside of a marking a member of a unit in the world may become a unit by itself
pub record Loosens (z : Sizes) (c : Core) (u v : ℕ) (own_cells left : List ℕ) : Type 0 where
  pub outside : c.phase ≡ Marking → ⊥
  pub unit : is_live c.phase c.doomed c.marked u ≡ true
  pub place : v < z.units
  pub free : c.doomed v ≡ true
  pub parts : c.cells u ≡ left ++ own_cells

abbrev pub LooseningIsLawful : Type 0
LooseningIsLawful =
    (z : Sizes) (c : Core) (u v : ℕ) (own_cells left : List ℕ) (own_bit : ℕ) (by_cell by_strong : ℕ → Bool) → Loosens z c u v own_cells left
    → Lawful z c → Lawful z (loosens c u v own_cells left own_bit by_cell by_strong)

-- the number of frames goes up and down by one, and is 0 only where all are closed
pub record AreCounted (z : Sizes) (c : Core) : Type 0 where
  pub most : frames z c ≤ z.lanes + z.markers
  pub opens : (a : Actor) → Allowed z c a FrameOpen → frames z (after_step z c a FrameOpen) ≡ frames z c + 1
  pub closes : (a : Actor) → Allowed z c a FrameClose → frames z (after_step z c a FrameClose) + 1 ≡ frames z c
  pub none : Lawful z c → frames z c ≡ 0 → ((l : ℕ) → c.lane_open l ≡ false) × ((m : ℕ) → c.marker_open m ≡ false)

abbrev pub FramesAreCounted : Type 0
FramesAreCounted = (z : Sizes) (c : Core) → AreCounted z c

-- and so from every lawful machine on
abbrev pub EventsStayLawful : Type 0
EventsStayLawful = (z : Sizes) (c : Core) (events : List (Actor × Step)) → AllAllowed z c events → Lawful z c → Lawful z (run z c events)

-- after one event
abbrev pub StepsStayLawful : Type 0
StepsStayLawful = (z : Sizes) (c : Core) (a : Actor) (e : Step) → Allowed z c a e → Lawful z c → Lawful z (after_step z c a e)

-- without units the machine is lawful
abbrev pub BareIsLawful : Type 0
BareIsLawful = (z : Sizes) (marked : ℕ → Bool) (cells : ℕ → List ℕ) → Lawful z (bare marked cells)
