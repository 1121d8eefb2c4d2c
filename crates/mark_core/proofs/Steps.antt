-- Each allowed event keeps the machine lawful.
use Rattle.std.proofs.Common.{◌≡◌, ℕ, ◌+◌, ◌*◌, ◌<◌, ◌≤◌, ◌&&◌, ◌==◌, refl, sym, subst, ap, inl, inr, suc, arith, Bool, cond, true, false, not, List, [], ◌∷◌, ◌⊎◌, Option, Some, None, IfSome}
use Rattle.std.proofs.Math.Nat.{mul-le-mul_right, suc-mul}
use Rattle.std.proofs.lemmas.Bool.{eqb-true, eq-eqb}
use Rattle.mark_core.specs.Changes.{set_at}
use Rattle.mark_core.specs.Machine.{Phase, Idle, Marking, Gathering, Lane, Marker, Collector, CellOf, StrongOf, Place, Nowhere, InRow, OnStack, InCollector, Scan, Job, NoJob, Roots, Look, Sizes, strong_place, root_places, frames, Core, same_place}
use Rattle.mark_core.specs.Steps.{Step, FrameOpen, FrameClose, BeginExchange, Shade, SwapCell, LoadCell, AddRow, TakeRow, SetDirty, ClearDirty, LoadRow, CommitExchange, LoadHead, DoomHead, Settle, RootBit, is_live, MayStore, found_of, is_found, behind, is_roots, no_stack, no_white, LaneMay, MarkerMay, CollectorMay, gains, marks, goes_on, moves_on, finds, starts, marker_loads, only_scans, finds_root, after_lane, after_marker, after_collector, after_step}
use Rattle.mark_core.specs.Lawful.{Lawful}
use Rattle.mark_core.specs.Laws.{StepsStayLawful, EventsStayLawful}
use Rattle.mark_core.proofs.Tools.{set_here, same_place_true, live_alive, in_or_beyond}
use Rattle.mark_core.proofs.Seats.{lane_opens, marker_opens, lane_closed, marker_closed, gained, lane_dirties, marker_dirties}
use Rattle.mark_core.proofs.Shades.{lane_shades, marker_shades, collector_shades}
use Rattle.mark_core.proofs.Stores.{IsStorable, stores, roots_set}
use Rattle.mark_core.proofs.Rows.{lane_adds, marker_adds, collector_adds, row_taken}
use Rattle.mark_core.proofs.Scans.{scans_open, found_cell, found_settled, started}
use Rattle.mark_core.proofs.Collects.{root_loaded, root_settled, rested, look_begun, row_loaded, marking_at_roots, none_set_is}
use Rattle.mark_core.proofs.Phases.{begun, committed, dooms, settles}

if_some : {A : Type 0} (Q : A → Type 0) (o : Option A) → ((x : A) → o ≡ Some x → Q x) → IfSome o Q
if_some Q None f = tt
if_some Q (Some x) f = f x refl

-- what a lane may store is in the world
storable : (z : Sizes) (c : Core) (l : ℕ) (to : Option ℕ) → MayStore c l to → Lawful z c → IsStorable c to
storable z c l None may h = tt
storable z c l (Some u) may h = (h.held l u may.0, may.1)

strong_in : (z : Sizes) (l n : ℕ) → l < z.lanes → n < z.strong → strong_place z l n < root_places z
strong_in z l n lt small =
    let most : suc l * z.strong ≤ z.lanes * z.strong = mul-le-mul_right {m = suc l} {n = z.lanes} z.strong lt in
    let one : suc l * z.strong ≡ l * z.strong + z.strong = suc-mul l z.strong in
    omega arith

marking_is : (p : Phase) → (p ≡ Marking) ⊎ (p ≡ Marking → ⊥)
marking_is Marking = inl refl
marking_is Idle = inr (λ e. absurd cc)
marking_is Gathering = inr (λ e. absurd cc)

-- while a unit is grey there is a marking
pub grey_marking : (z : Sizes) (c : Core) (u : ℕ) → (c.place u ≡ Nowhere → ⊥) → Lawful z c → c.phase ≡ Marking
grey_marking z c u grey_u h = go (marking_is c.phase)
  where
    go : (c.phase ≡ Marking) ⊎ (c.phase ≡ Marking → ⊥) → c.phase ≡ Marking
    go (inl e) = e
    go (inr out) = absurd (grey_u ((h.quiet out).places u))

scan_marking : (z : Sizes) (c : Core) (m : ℕ) (s : Scan) → c.scan m ≡ Some s → Lawful z c → c.phase ≡ Marking
scan_marking z c m s at h = grey_marking z c s.unit (λ none. absurd (let under = h.standing.under m s at in cc)) h

alive_held : (z : Sizes) (c : Core) (l u : ℕ) → c.holds l u ≡ true → Lawful z c → c.doomed u ≡ false
alive_held z c l u holds h = live_alive c.phase c.doomed c.marked u (h.held l u holds)

-- what the test on a stack says
stack_none : (z : Sizes) (c : Core) (m : ℕ) → no_stack z c.place m ≡ true → Lawful z c → (u : ℕ) → c.place u ≡ OnStack m → ⊥
stack_none z c m none h u on = go (in_or_beyond z u)
  where
    go : (u < z.units) ⊎ (z.units ≤ u) → ⊥
    go (inl lt) = absurd (
        let off : same_place (c.place u) (OnStack m) ≡ false = none_set_is (λ v. same_place (c.place v) (OnStack m)) z.units none u lt in
        let own : same_place (OnStack m) (OnStack m) ≡ false = subst (λ (p : Place). same_place p (OnStack m) ≡ false) on off in
        let same : (m == m) ≡ true = eq-eqb m m refl in cc)
    go (inr far) = absurd (let nowhere = h.grey.doomed_is u (h.beyond u far) in cc)

-- what the test on the white units says
white_none : (z : Sizes) (c : Core) → no_white z c.doomed c.marked ≡ true → Lawful z c → (u : ℕ) → c.marked u ≡ false → c.doomed u ≡ true
white_none z c none h u white = go (in_or_beyond z u)
  where
    dead : (d m : Bool) → (not d && not m) ≡ false → m ≡ false → d ≡ true
    dead true m e f = refl
    dead false true e f = absurd cc
    dead false false e f = absurd cc

    go : (u < z.units) ⊎ (z.units ≤ u) → c.doomed u ≡ true
    go (inl lt) = dead (c.doomed u) (c.marked u) (none_set_is (λ v. not (c.doomed v) && not (c.marked v)) z.units none u lt) white
    go (inr far) = h.beyond u far

pub lane_step : (z : Sizes) (c : Core) (l : ℕ) (e : Step) → l < z.lanes → LaneMay z c l e → Lawful z c → Lawful z (after_lane z c l e)
lane_step z c l FrameOpen lt may h = lane_opens z c l lt h
lane_step z c l FrameClose lt may h = lane_closed z c l may h
lane_step z c l (Shade u) lt may h = lane_shades z c l u may.0 may.1 (alive_held z c l u may.2 h) h
lane_step z c l (SwapCell (CellOf u k) to) lt may h =
    gained z (record c { cell = set_at c.cell k to }) l (c.cell k) may.0.opened
    (if_some (λ v. is_live c.phase c.doomed c.marked v ≡ true) (c.cell k) (λ v e. h.cells u k v (h.held l u may.1.0) may.1.1 e))
    (stores z c k to (storable z c l to may.2 h) h)
lane_step z c l (SwapCell (StrongOf of n) to) lt may h =
    gained z (record c { root = set_at c.root (strong_place z of n) to }) l (c.root (strong_place z of n)) may.0.opened
    (if_some (λ v. is_live c.phase c.doomed c.marked v ≡ true) (c.root (strong_place z of n)) (λ v e. (h.root_set (strong_place z of n) v e).1))
    (roots_set z c (strong_place z of n) to (strong_in z of n (subst (λ (x : ℕ). x < z.lanes) (sym may.1.0) lt) may.1.1) (storable z c l to may.2 h) h)
lane_step z c l (LoadCell (CellOf u k)) lt may h =
    gained z c l (c.cell k) may.0.opened (if_some (λ v. is_live c.phase c.doomed c.marked v ≡ true) (c.cell k) (λ v e. h.cells u k v (h.held l u may.1.0) may.1.1 e)) h
lane_step z c l (LoadCell (StrongOf of n)) lt may h =
    gained z c l (c.root (strong_place z of n)) may.0.opened
    (if_some (λ v. is_live c.phase c.doomed c.marked v ≡ true) (c.root (strong_place z of n)) (λ v e. (h.root_set (strong_place z of n) v e).1)) h
lane_step z c l (AddRow r u) lt may h = lane_adds z c l r u may.0 (let e = may.1 in omega arith) h
lane_step z c l SetDirty lt may h = lane_dirties z c l may h
lane_step z c l (LoadRow r w) lt may h = h
lane_step z c l (LoadHead u) lt may h = go (c.lane_open l) (is_live c.phase c.doomed c.marked u) refl refl
  where
    go : (a b : Bool) → c.lane_open l ≡ a → is_live c.phase c.doomed c.marked u ≡ b → Lawful z (gains c l (cond (a && b) (Some u) None))
    go true true on live = gained z c l (Some u) on live h
    go true false on live = h
    go false b on live = h
lane_step z c l (RootBit bit u (Some true)) lt may h = roots_set z c bit (Some u) (let small = may.1 in omega arith) (h.held l u may.2, may.3) h
lane_step z c l (RootBit bit u (Some false)) lt may h = roots_set z c bit None (let small = may.1 in omega arith) tt h
lane_step z c l _ lt may h = absurd may

marker_shade : (z : Sizes) (c : Core) (m u : ℕ) (o : Option Scan) → c.scan m ≡ o → c.phase ≡ Marking → found_of o ≡ Some u → Lawful z c → Lawful z (moves_on (marks c u (OnStack m)) m o)
marker_shade z c m u None at marking found h = absurd cc
marker_shade z c m u (Some s) at marking found h =
    let alive : c.doomed u ≡ false = live_alive c.phase c.doomed c.marked u (h.found.markers m s u at found) in
    let shaded = marker_shades z c m u (scans_open z c m s at h) marking alive h in
    found_settled z (marks c u (OnStack m)) m u s at found marking (set_here c.marked u true u refl) shaded

marker_head : (z : Sizes) (c : Core) (m u : ℕ) (o : Option Scan) → c.scan m ≡ o → Lawful z c → Lawful z (marker_loads c m u o)
marker_head z c m u None at h = go (same_place (c.place u) (OnStack m)) refl
  where
    go : (b : Bool) → same_place (c.place u) (OnStack m) ≡ b → Lawful z (cond b (starts c m u (c.cells u)) c)
    go true e = let on = same_place_true (c.place u) (OnStack m) e in started z c m u at on (grey_marking z c u (λ none. absurd cc) h) h
    go false e = h
marker_head z c m u (Some s) at h = go (is_found s.found u) (c.marked u) refl refl
  where
    found_is : (o : Option ℕ) → is_found o u ≡ true → o ≡ Some u
    found_is None e = absurd cc
    found_is (Some t) e = ap (λ (x : ℕ). Some x) (eqb-true t u e)

    go : (a b : Bool) → is_found s.found u ≡ a → c.marked u ≡ b → Lawful z (cond (a && b) (goes_on c m s (behind s.left)) c)
    go true true f on = found_settled z c m u s at (found_is s.found f) (scan_marking z c m s at h) on h
    go true false f on = h
    go false b f on = h

-- a scan changes nothing else
pub goes_only : (c : Core) (m : ℕ) (s : Scan) (ns : List ℕ) → goes_on c m s ns ≡ only_scans c (goes_on c m s ns)
goes_only c m s [] = refl
goes_only c m s (n ∷ rest) = refl

pub moves_only : (c : Core) (m : ℕ) (o : Option Scan) → moves_on c m o ≡ only_scans c (moves_on c m o)
moves_only c m None = refl
moves_only c m (Some s) = goes_only c m s (behind s.left)

pub finds_only : (c : Core) (m : ℕ) (o : Option Scan) (got : Option ℕ) → finds c m o got ≡ only_scans c (finds c m o got)
finds_only c m o None = moves_only c m o
finds_only c m None (Some t) = refl
finds_only c m (Some s) (Some t) = refl

pub starts_only : (c : Core) (m u : ℕ) (ns : List ℕ) → starts c m u ns ≡ only_scans c (starts c m u ns)
starts_only c m u [] = refl
starts_only c m u (n ∷ rest) = refl

pub head_only : (c : Core) (m u : ℕ) (o : Option Scan) → marker_loads c m u o ≡ only_scans c (marker_loads c m u o)
head_only c m u None = go (same_place (c.place u) (OnStack m))
  where
    go : (b : Bool) → cond b (starts c m u (c.cells u)) c ≡ only_scans c (cond b (starts c m u (c.cells u)) c)
    go true = starts_only c m u (c.cells u)
    go false = refl
head_only c m u (Some s) = go (is_found s.found u && c.marked u)
  where
    go : (b : Bool) → cond b (goes_on c m s (behind s.left)) c ≡ only_scans c (cond b (goes_on c m s (behind s.left)) c)
    go true = goes_only c m s (behind s.left)
    go false = refl

pub marker_step : (z : Sizes) (c : Core) (m : ℕ) (e : Step) → m < z.markers → MarkerMay z c m e → Lawful z c → Lawful z (after_marker z c m e)
marker_step z c m FrameOpen lt may h = marker_opens z c m lt h
marker_step z c m FrameClose lt may h = marker_closed z c m may.1 may.2 (stack_none z c m may.3 h) h
marker_step z c m (Shade u) lt may h = subst (Lawful z) (moves_only (marks c u (OnStack m)) m (c.scan m)) (marker_shade z c m u (c.scan m) refl may.0 may.1 h)
marker_step z c m (LoadCell (CellOf u k)) lt may h =
    subst (Lawful z) (finds_only c m (c.scan m) (c.cell k))
    (found_cell z c m u k may.0 (c.cell k) may.1 may.2 refl (scan_marking z c m (record { unit = u; left = k ∷ may.0; found = None }) may.1 h) h)
marker_step z c m (LoadCell (StrongOf of n)) lt may h = absurd may
marker_step z c m (AddRow r u) lt may h = marker_adds z c m r u may.0 (let e = may.1 in omega arith) h
marker_step z c m (TakeRow r w) lt may h = row_taken z c m r w may.0 h
marker_step z c m SetDirty lt may h = marker_dirties z c m may h
marker_step z c m (LoadRow r w) lt may h = h
marker_step z c m (LoadHead u) lt may h = subst (Lawful z) (head_only c m u (c.scan m)) (marker_head z c m u (c.scan m) refl h)
marker_step z c m _ lt may h = absurd may

roots_place : (job : Job) → is_roots job ≡ true → (p : ℕ) × (job ≡ Roots p)
roots_place NoJob e = absurd cc
roots_place (Roots p) e = (p, refl)
roots_place (Look r w) e = absurd cc

pub collector_step : (z : Sizes) (c : Core) (e : Step) → CollectorMay z c e → Lawful z c → Lawful z (after_collector z c e)
collector_step z c BeginExchange may h = begun z c (frames z c == 0) refl may.0 may.1 h
collector_step z c (Shade u) may h =
    let at = roots_place c.job may.0 in
    let marking : c.phase ≡ Marking = marking_at_roots c.phase c.job at.0 c.own_hand c.own_found at.1 h.work in
    let alive : c.doomed u ≡ false = live_alive c.phase c.doomed c.marked u (h.found.own u may.1) in
    let shaded = collector_shades z c u at.0 at.1 may.2 marking alive h in
    rested z (record (marks c u InCollector) { own_hand = cond (c.marked u) c.own_hand (Some u); own_found = set_at c.own_found u false })
    (root_settled z (record (marks c u InCollector) { own_hand = cond (c.marked u) c.own_hand (Some u) }) u at.0 at.1 (set_here c.marked u true u refl) shaded)
collector_step z c (LoadCell (StrongOf of n)) may h =
    rested z (record c { job = Roots (strong_place z of n + 1); own_found = finds_root c.own_found (c.root (strong_place z of n)) })
    (root_loaded z c (strong_place z of n) may.0 h)
collector_step z c (LoadCell (CellOf u k)) may h = absurd may
collector_step z c (AddRow r u) may h = rested z (record c { place = set_at c.place u (InRow r); own_hand = None }) (collector_adds z c r u may.0 (let e = may.1 in omega arith) h)
collector_step z c ClearDirty may h = look_begun z c may.0 may.1 h
collector_step z c (LoadRow r w) may h = row_loaded z c r w c.job refl h
collector_step z c CommitExchange may h = committed z c ((frames z c == 0) && not c.dirty) refl may h
collector_step z c (LoadHead u) may h = h
collector_step z c (DoomHead u) may h = dooms z c u may.0 may.1 h
collector_step z c Settle may h = settles z c may.0 (white_none z c may.1 h) h
collector_step z c (RootBit bit u None) may h = rested z (record c { job = Roots (bit + 1); own_found = finds_root c.own_found (c.root bit) }) (root_loaded z c bit may.0 h)
collector_step z c _ may h = absurd may

-- The machine stays lawful
pub step_lawful : StepsStayLawful
step_lawful z c (Lane l) e may h = lane_step z c l e may.0 may.1 h
step_lawful z c (Marker m) e may h = marker_step z c m e may.0 may.1 h
step_lawful z c Collector e may h = collector_step z c e may h

pub run_lawful : EventsStayLawful
run_lawful z c [] may h = h
run_lawful z c (e ∷ es) may h = run_lawful z (after_step z c e.0 e.1) es may.1 (step_lawful z c e.0 e.1 may.0 h)
