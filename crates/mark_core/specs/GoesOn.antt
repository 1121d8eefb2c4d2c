-- That a marking can end: nobody is stuck.
use Rattle.std.specs.Prelude.{◌≡◌, ℕ, ◌+◌, ◌<◌, ◌≤◌, ⊤, Bool, false, ◌⊎◌, List, Some}
use Rattle.mark_core.specs.Changes.{is_empty}
use Rattle.mark_core.specs.Machine.{Idle, Marking, Gathering, Actor, Scan, Job, Look, Sizes, root_places, words, Core}
use Rattle.mark_core.specs.Steps.{Step, roots_done, Allowed, AllAllowed, after_step, run}
use Rattle.mark_core.specs.Lawful.{Lawful}
use Rattle.mark_core.specs.Makes.{makes, clears, loosens}
use Rattle.mark_core.specs.Start.{start, bare}
use Rattle.mark_core.specs.Laws.{Commits}

-- the collector looks at a word that the machine has, or has looked at all
abbrev pub LooksInRange : Sizes → Job → Type 0
LooksInRange z (Look row word) = ((row ≤ z.markers) × (word < words z)) ⊎ ((row ≡ z.markers + 1) × (word ≡ 0))
LooksInRange z _ = ⊤

-- Each scan has a cell to settle; while the collector goes over the root set there is a place to load, a unit found or
-- one in hand; and where it looks there is a word
pub record GoesOn (z : Sizes) (c : Core) : Type 0 where
  pub scans : (m : ℕ) (s : Scan) → c.scan m ≡ Some s → is_empty s.left ≡ false
  pub roots : roots_done z c.job c.own_hand c.own_found ≡ false
  pub looks : LooksInRange z c.job

-- So it is at the start, with units and without, after each event of a machine that has a root set, and after what
-- happens beside the events
pub record NobodyIsStuck (z : Sizes) : Type 0 where
  pub start : (cells : ℕ → List ℕ) → GoesOn z (start z cells)
  pub bare : (marked : ℕ → Bool) (cells : ℕ → List ℕ) → GoesOn z (bare marked cells)
  pub step : (c : Core) (a : Actor) (e : Step) → 0 < root_places z → Allowed z c a e → GoesOn z c → GoesOn z (after_step z c a e)
  pub made : (c : Core) (lane u : ℕ) (cells : List ℕ) → GoesOn z c → GoesOn z (makes c lane u cells)
  pub cleared : (c : Core) (u : ℕ) (gone left : List ℕ) → GoesOn z c → GoesOn z (clears c u gone left)
  pub loosened : (c : Core) (u v : ℕ) (own_cells left : List ℕ) (own_bit : ℕ) (by_cell by_strong : ℕ → Bool) → GoesOn z c → GoesOn z (loosens c u v own_cells left own_bit by_cell by_strong)

-- these events are allowed one after the other, and lead to a machine of which this holds
pub record LeadsTo (Goal : Core → Type 0) (z : Sizes) (c : Core) : Type 0 where
  pub events : List (Actor × Step)
  pub allowed : AllAllowed z c events
  pub there : Goal (run z c events)

-- From every lawful machine that marks some events lead to a commit exchange that succeeds
abbrev pub MarkingsCanEnd : Type 0
MarkingsCanEnd = (z : Sizes) (c : Core) → 0 < z.markers → c.phase ≡ Marking → GoesOn z c → Lawful z c → LeadsTo (Commits z) z c

-- and from every one that gathers, to the end of the collection
abbrev pub IsIdle : Core → Type 0
IsIdle c = c.phase ≡ Idle

abbrev pub GatheringsCanEnd : Type 0
GatheringsCanEnd = (z : Sizes) (c : Core) → c.phase ≡ Gathering → Lawful z c → LeadsTo IsIdle z c
