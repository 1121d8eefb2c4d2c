-- When a commit exchange succeeds nothing is grey, and what is reached is marked.
use Rattle.std.proofs.Common.{◌≡◌, ℕ, subst, true, false, List, [], ◌∷◌, Some, None}
use Rattle.mark_core.specs.Machine.{Marking, Nowhere, Job, Core}
use Rattle.mark_core.specs.Lawful.{FoundNone, AtWork, Unloaded}
use Rattle.mark_core.specs.Reach.{graph, Refers, Walk}
use Rattle.mark_core.specs.Laws.{CommitsAreRight}
use Rattle.mark_core.proofs.Tools.{live_alive, live_marking}
use Rattle.mark_core.proofs.Collects.{roots_marked}
use Rattle.mark_core.proofs.Phases.{nothing_grey}

-- marked, and not doomed
abbrev IsSafe : Core → ℕ → Type 0
IsSafe c u = (c.marked u ≡ true) × (c.doomed u ≡ false)

-- what a walk of safe steps reaches is safe
walk_safe : (c : Core) → ((u v : ℕ) → IsSafe c u → Refers (graph c) u v → IsSafe c v) → (u : ℕ) (rest : List ℕ) (v : ℕ) → IsSafe c u → Walk (graph c) u rest v → IsSafe c v
walk_safe c on u [] v safe walk = subst (IsSafe c) walk safe
walk_safe c on u (next ∷ rest) v safe walk = walk_safe c on next rest v (on u next safe walk.0) walk.1

pub commit_right : CommitsAreRight
commit_right z c commits h = record { none_grey = nowhere; reached = λ u is. walk_safe c on is.root is.rest u (root_safe is.place is.root is.named) is.walk }
  where
    work : (c.phase ≡ Marking) × (c.own_hand ≡ None) × (FoundNone c.own_found)
    work = subst (λ (j : Job). AtWork c.phase j c.own_hand c.own_found) commits.may h.work

    nowhere : (u : ℕ) → c.place u ≡ Nowhere
    nowhere = nothing_grey z c commits.may commits.no_frame commits.clean h

    on : (u v : ℕ) → IsSafe c u → Refers (graph c) u v → IsSafe c v
    on u v safe refers = (
      (h.black work.0).black u refers.0 v safe.1 safe.0 (nowhere u) refers.1 refers.2,
      live_alive c.phase c.doomed c.marked v (h.cells u refers.0 v (live_marking c.phase c.doomed c.marked u work.0 safe.1) refers.1 refers.2),
    )

    root_safe : (p u : ℕ) → c.root p ≡ Some u → IsSafe c u
    root_safe p u e = (roots_marked z c work.0 (λ q un. subst (λ (j : Job). Unloaded j q) commits.may un) work.2 h p u e, live_alive c.phase c.doomed c.marked u (h.root_set p u e).1)
