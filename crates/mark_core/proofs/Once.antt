-- No unit is scanned twice in one marking.
use Rattle.std.proofs.Common.{◌≡◌, ℕ, ◌+◌, ◌≤◌, ◌==◌, ◌&&◌, refl, sym, ap, ◌∙◌, arith, Bool, cond, true, false, not, List, [], ◌∷◌, Option, Some, None}
use Rattle.std.proofs.lemmas.Bool.{eqb-true}
use Rattle.mark_core.specs.Changes.{is_empty}
use Rattle.mark_core.specs.Machine.{Actor, Lane, Marker, Collector, CellOf, StrongOf, Nowhere, OnStack, Scan, Sizes, Core, same_place, frames}
use Rattle.mark_core.specs.Steps.{Step, BeginExchange, Shade, SwapCell, LoadCell, CommitExchange, LoadHead, RootBit, is_found, behind, marks, goes_on, moves_on, finds, starts, marker_loads, after_lane, after_marker, after_collector, after_step, AllAllowed, begins_by, commits_by}
use Rattle.mark_core.specs.Lawful.{Lawful}
use Rattle.mark_core.specs.Start.{start}
use Rattle.mark_core.specs.Progress.{ends, ends_scan, ends_at, ends_head, scanned_by, is_begin, count_on, scans}
use Rattle.mark_core.specs.Laws.{ScannedOnce}
use Rattle.mark_core.proofs.Tools.{at_set, set_here, same_place_true, some_same}
use Rattle.mark_core.proofs.Steps.{step_lawful}
use Rattle.mark_core.proofs.Starts.{start_lawful}

-- a unit that was scanned stays so
abbrev Stays : Core → Core → ℕ → Type 0
Stays c d u = c.scanned u ≡ true → d.scanned u ≡ true

goes_stays : (c : Core) (m : ℕ) (s : Scan) (ns : List ℕ) (u : ℕ) → Stays c (goes_on c m s ns) u
goes_stays c m s [] u h = at_set (λ b. b ≡ true) c.scanned s.unit true u (λ e. refl) (λ n. h)
goes_stays c m s (n ∷ rest) u h = h

moves_stays : (c : Core) (m : ℕ) (o : Option Scan) (u : ℕ) → Stays c (moves_on c m o) u
moves_stays c m None u h = h
moves_stays c m (Some s) u h = goes_stays c m s (behind s.left) u h

finds_stays : (c : Core) (m : ℕ) (o : Option Scan) (got : Option ℕ) (u : ℕ) → Stays c (finds c m o got) u
finds_stays c m o None u h = moves_stays c m o u h
finds_stays c m None (Some t) u h = h
finds_stays c m (Some s) (Some t) u h = h

starts_stays : (c : Core) (m v : ℕ) (ns : List ℕ) (u : ℕ) → Stays c (starts c m v ns) u
starts_stays c m v [] u h = at_set (λ b. b ≡ true) c.scanned v true u (λ e. refl) (λ n. h)
starts_stays c m v (n ∷ rest) u h = h

head_stays : (c : Core) (m v : ℕ) (o : Option Scan) (u : ℕ) → Stays c (marker_loads c m v o) u
head_stays c m v None u h = go (same_place (c.place v) (OnStack m))
  where
    go : (b : Bool) → (cond b (starts c m v (c.cells v)) c).scanned u ≡ true
    go true = starts_stays c m v (c.cells v) u h
    go false = h
head_stays c m v (Some s) u h = go (is_found s.found v && c.marked v)
  where
    go : (b : Bool) → (cond b (goes_on c m s (behind s.left)) c).scanned u ≡ true
    go true = goes_stays c m s (behind s.left) u h
    go false = h

lane_stays : (z : Sizes) (c : Core) (l : ℕ) (e : Step) (u : ℕ) → Stays c (after_lane z c l e) u
lane_stays z c l (SwapCell (CellOf v k) to) u h = h
lane_stays z c l (SwapCell (StrongOf of n) to) u h = h
lane_stays z c l (LoadCell (CellOf v k)) u h = h
lane_stays z c l (LoadCell (StrongOf of n)) u h = h
lane_stays z c l (RootBit bit v None) u h = h
lane_stays z c l (RootBit bit v (Some on)) u h = h
lane_stays z c l _ u h = h

marker_stays : (z : Sizes) (c : Core) (m : ℕ) (e : Step) (u : ℕ) → Stays c (after_marker z c m e) u
marker_stays z c m (Shade v) u h = moves_stays (marks c v (OnStack m)) m (c.scan m) u h
marker_stays z c m (LoadCell (CellOf v k)) u h = finds_stays c m (c.scan m) (c.cell k) u h
marker_stays z c m (LoadCell (StrongOf of n)) u h = h
marker_stays z c m (LoadHead v) u h = head_stays c m v (c.scan m) u h
marker_stays z c m _ u h = h

commit_stays : (c : Core) (b : Bool) (u : ℕ) → Stays c (commits_by b c) u
commit_stays c true u h = h
commit_stays c false u h = h

begin_stays : (c : Core) (b : Bool) (u : ℕ) → b ≡ false → Stays c (begins_by b c) u
begin_stays c true u e h = absurd cc
begin_stays c false u e h = h

collector_stays : (z : Sizes) (c : Core) (e : Step) (u : ℕ) → is_begin z c Collector e ≡ false → Stays c (after_collector z c e) u
collector_stays z c BeginExchange u other h = begin_stays c (frames z c == 0) u other h
collector_stays z c CommitExchange u other h = commit_stays c ((frames z c == 0) && not c.dirty) u h
collector_stays z c (LoadCell (StrongOf of n)) u other h = h
collector_stays z c (LoadCell (CellOf v k)) u other h = h
collector_stays z c (RootBit bit v None) u other h = h
collector_stays z c (RootBit bit v (Some on)) u other h = h
collector_stays z c _ u other h = h

pub scanned_stays : (z : Sizes) (c : Core) (a : Actor) (e : Step) (u : ℕ) → is_begin z c a e ≡ false → Stays c (after_step z c a e) u
scanned_stays z c (Lane l) e u other h = lane_stays z c l e u h
scanned_stays z c (Marker m) e u other h = marker_stays z c m e u h
scanned_stays z c Collector e u other h = collector_stays z c e u other h

-- The unit whose scan ends was grey, and is scanned afterwards
abbrev Ended : Core → Core → ℕ → Type 0
Ended c d u = (c.place u ≡ Nowhere → ⊥) × (d.scanned u ≡ true)

goes_ends : (c d : Core) (m : ℕ) (s : Scan) (ns : List ℕ) (u : ℕ) → (c.place s.unit ≡ Nowhere → ⊥) → ends s ns ≡ Some u → Ended c (goes_on d m s ns) u
goes_ends c d m s [] u grey_s e =
    let at : s.unit ≡ u = some_same s.unit u e in
    (λ none. grey_s (ap c.place at ∙ none), set_here d.scanned s.unit true u (sym at))
goes_ends c d m s (n ∷ rest) u grey_s e = absurd cc

moves_ends : (z : Sizes) (c d : Core) (m : ℕ) (o : Option Scan) (u : ℕ) → c.scan m ≡ o → Lawful z c → ends_scan o ≡ Some u → Ended c (moves_on d m o) u
moves_ends z c d m None u at h e = absurd cc
moves_ends z c d m (Some s) u at h e = goes_ends c d m s (behind s.left) u (λ none. absurd (let under = h.standing.under m s at in cc)) e

finds_ends : (z : Sizes) (c : Core) (m : ℕ) (got : Option ℕ) (u : ℕ) → Lawful z c → ends_at got (c.scan m) ≡ Some u → Ended c (finds c m (c.scan m) got) u
finds_ends z c m None u h e = moves_ends z c c m (c.scan m) u refl h e
finds_ends z c m (Some t) u h e = absurd cc

starts_ends : (c : Core) (m v u : ℕ) (ns : List ℕ) → c.place v ≡ OnStack m → cond (is_empty ns) (Some v) None ≡ Some u → Ended c (starts c m v ns) u
starts_ends c m v u [] on e =
    let at : v ≡ u = some_same v u e in
    (λ none. absurd (let there : c.place v ≡ c.place u = ap c.place at in cc), set_here c.scanned v true u (sym at))
starts_ends c m v u (n ∷ rest) on e = absurd cc

head_ends : (z : Sizes) (c : Core) (m v : ℕ) (o : Option Scan) (u : ℕ) → c.scan m ≡ o → Lawful z c → ends_head c m v o ≡ Some u → Ended c (marker_loads c m v o) u
head_ends z c m v None u at h = go (same_place (c.place v) (OnStack m)) refl
  where
    go : (b : Bool) → same_place (c.place v) (OnStack m) ≡ b → cond (b && is_empty (c.cells v)) (Some v) None ≡ Some u → Ended c (cond b (starts c m v (c.cells v)) c) u
    go true is e = starts_ends c m v u (c.cells v) (same_place_true (c.place v) (OnStack m) is) e
    go false is e = absurd cc
head_ends z c m v (Some s) u at h = go (is_found s.found v && c.marked v)
  where
    go : (b : Bool) → cond b (ends s (behind s.left)) None ≡ Some u → Ended c (cond b (goes_on c m s (behind s.left)) c) u
    go true e = goes_ends c c m s (behind s.left) u (λ none. absurd (let under = h.standing.under m s at in cc)) e
    go false e = absurd cc

pub marker_ends : (z : Sizes) (c : Core) (m : ℕ) (e : Step) (u : ℕ) → Lawful z c → scanned_by c (Marker m) e ≡ Some u → Ended c (after_marker z c m e) u
marker_ends z c m (Shade v) u h e = moves_ends z c (marks c v (OnStack m)) m (c.scan m) u refl h e
marker_ends z c m (LoadCell (CellOf v k)) u h e = finds_ends z c m (c.cell k) u h e
marker_ends z c m (LoadCell (StrongOf of n)) u h e = absurd cc
marker_ends z c m (LoadHead v) u h e = head_ends z c m v (c.scan m) u refl h e
marker_ends z c m _ u h e = absurd cc

pub scan_ended : (z : Sizes) (c : Core) (a : Actor) (e : Step) (u : ℕ) → Lawful z c → scanned_by c a e ≡ Some u → Ended c (after_step z c a e) u
scan_ended z c (Marker m) e u h is = marker_ends z c m e u h is
scan_ended z c (Lane l) e u h is = absurd cc
scan_ended z c Collector e u h is = absurd cc

-- the unit was scanned at most once, and not at all while it is not told so
pub record AtMostOnce (c : Core) (u n : ℕ) : Type 0 where
  pub most : n ≤ 1
  pub none : c.scanned u ≡ false → n ≡ 0

found_is : (o : Option ℕ) (u : ℕ) → is_found o u ≡ true → o ≡ Some u
found_is None u e = absurd cc
found_is (Some t) u e = ap (λ (x : ℕ). Some x) (eqb-true t u e)

not_both : (b : Bool) → b ≡ true → b ≡ false → ⊥
not_both b t f = absurd cc

false_before : (b d : Bool) → (b ≡ true → d ≡ true) → d ≡ false → b ≡ false
false_before true d f e = absurd (let t = f refl in cc)
false_before false d f e = refl

once_on : (z : Sizes) (c : Core) (a : Actor) (e : Step) (u n : ℕ) → Lawful z c → AtMostOnce c u n → AtMostOnce (after_step z c a e) u (count_on z c a e u n)
once_on z c a e u n h once = go (is_begin z c a e) (is_found (scanned_by c a e) u) refl refl
  where
    go : (b f : Bool) → is_begin z c a e ≡ b → is_found (scanned_by c a e) u ≡ f → AtMostOnce (after_step z c a e) u (cond b 0 (cond f (n + 1) n))
    go true f begins found = record { most = omega arith; none = λ off. refl }
    go false true other found =
        let ended = scan_ended z c a e u h (found_is (scanned_by c a e) u found) in
        let zero_before : n ≡ 0 = once.none (before ended.0) in
        record { most = omega arith; none = λ off. absurd (not_both ((after_step z c a e).scanned u) ended.1 off) }
      where
        before : (c.place u ≡ Nowhere → ⊥) → c.scanned u ≡ false
        before grey_u = pick (c.scanned u) refl
          where
            pick : (b : Bool) → c.scanned u ≡ b → b ≡ false
            pick true is = absurd (grey_u (h.grey.scanned_is u is).0)
            pick false is = refl
    go false false other found = record { most = once.most; none = λ off. once.none (false_before (c.scanned u) ((after_step z c a e).scanned u) (scanned_stays z c a e u other) off) }

scans_once : (z : Sizes) (c : Core) (u n : ℕ) (events : List (Actor × Step)) → AllAllowed z c events → Lawful z c → AtMostOnce c u n → scans z c u n events ≤ 1
scans_once z c u n [] may h once = once.most
scans_once z c u n (e ∷ es) may h once = scans_once z (after_step z c e.0 e.1) u (count_on z c e.0 e.1 u n) es may.1 (step_lawful z c e.0 e.1 may.0 h) (once_on z c e.0 e.1 u n h once)

pub scanned_once : ScannedOnce
scanned_once z cells u events may = scans_once z (start z cells) u 0 events may (start_lawful z cells) (record { most = omega arith; none = λ e. refl })
