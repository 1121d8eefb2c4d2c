-- Each event leaves everybody something to do.
use Rattle.std.proofs.Common.{◌≡◌, ℕ, ◌+◌, ◌<◌, ◌≤◌, ◌==◌, ◌&&◌, nat_lt, nat_le, refl, sym, ap, ◌∙◌, subst, inl, inr, arith, rules, Bool, cond, true, false, not, is_none, List, [], ◌∷◌, Option, Some, None}
use Rattle.mark_core.specs.Changes.{set_at, is_empty}
use Rattle.mark_core.specs.Machine.{Actor, Lane, Marker, Collector, CellOf, StrongOf, OnStack, Scan, Job, NoJob, Roots, Look, Sizes, root_places, words, Core, same_place, frames, InRow, InCollector, strong_place}
use Rattle.mark_core.specs.Steps.{Step, BeginExchange, Shade, SwapCell, LoadCell, AddRow, ClearDirty, LoadRow, CommitExchange, LoadHead, DoomHead, Settle, RootBit, behind, marks, goes_on, moves_on, finds, starts, is_found, marker_loads, roots_done, finds_root, none_set, is_zero_word, next_word, looks, first_look, looked_all, begins_by, commits_by, Allowed, CollectorMay, after_lane, after_marker, after_collector, after_step}
use Rattle.mark_core.specs.GoesOn.{LooksInRange, GoesOn, NobodyIsStuck}
use Rattle.mark_core.proofs.Tools.{at_set, some_same}

-- ---- scans

abbrev ScansSome : (ℕ → Option Scan) → Type 0
ScansSome scan = (m : ℕ) (s : Scan) → scan m ≡ Some s → is_empty s.left ≡ false

with_scan : (scan : ℕ → Option Scan) (m : ℕ) (t : Scan) → is_empty t.left ≡ false → ScansSome scan → ScansSome (set_at scan m (Some t))
with_scan scan m t some h k q =
    at_set (λ x. x ≡ Some q → is_empty q.left ≡ false) scan m (Some t) k
    (λ e now. ap (λ (x : Scan). is_empty x.left) (sym (some_same {A = Scan} t q now)) ∙ some) (λ n was. h k q was)

goes_some : (c : Core) (m : ℕ) (s : Scan) (ns : List ℕ) → ScansSome c.scan → ScansSome (goes_on c m s ns).scan
goes_some c m s [] h = λ k q. at_set (λ x. x ≡ Some q → is_empty q.left ≡ false) c.scan m None k (λ e wrong. absurd cc) (λ n was. h k q was)
goes_some c m s (n ∷ rest) h = with_scan c.scan m (record { unit = s.unit; left = n ∷ rest; found = None }) refl h

moves_some : (c : Core) (m : ℕ) (o : Option Scan) → ScansSome c.scan → ScansSome (moves_on c m o).scan
moves_some c m None h = h
moves_some c m (Some s) h = goes_some c m s (behind s.left) h

finds_some : (c : Core) (m : ℕ) (o : Option Scan) (got : Option ℕ) → c.scan m ≡ o → ScansSome c.scan → ScansSome (finds c m o got).scan
finds_some c m o None at h = moves_some c m o h
finds_some c m None (Some t) at h = h
finds_some c m (Some s) (Some t) at h = with_scan c.scan m (record s { found = Some t }) (h m s at) h

starts_some : (c : Core) (m u : ℕ) (ns : List ℕ) → ScansSome c.scan → ScansSome (starts c m u ns).scan
starts_some c m u [] h = h
starts_some c m u (n ∷ rest) h = with_scan c.scan m (record { unit = u; left = n ∷ rest; found = None }) refl h

head_some : (c : Core) (m u : ℕ) (o : Option Scan) → ScansSome c.scan → ScansSome (marker_loads c m u o).scan
head_some c m u None h = go (same_place (c.place u) (OnStack m))
  where
    go : (b : Bool) → ScansSome (cond b (starts c m u (c.cells u)) c).scan
    go true = starts_some c m u (c.cells u) h
    go false = h
head_some c m u (Some s) h = go (is_found s.found u && c.marked u)
  where
    go : (b : Bool) → ScansSome (cond b (goes_on c m s (behind s.left)) c).scan
    go true = goes_some c m s (behind s.left) h
    go false = h

pub lane_goes : (z : Sizes) (c : Core) (l : ℕ) (e : Step) → GoesOn z c → GoesOn z (after_lane z c l e)
lane_goes z c l (SwapCell (CellOf u k) to) h = record { scans = h.scans; roots = h.roots; looks = h.looks }
lane_goes z c l (SwapCell (StrongOf of n) to) h = record { scans = h.scans; roots = h.roots; looks = h.looks }
lane_goes z c l (LoadCell (CellOf u k)) h = record { scans = h.scans; roots = h.roots; looks = h.looks }
lane_goes z c l (LoadCell (StrongOf of n)) h = record { scans = h.scans; roots = h.roots; looks = h.looks }
lane_goes z c l (RootBit bit u None) h = record { scans = h.scans; roots = h.roots; looks = h.looks }
lane_goes z c l (RootBit bit u (Some on)) h = record { scans = h.scans; roots = h.roots; looks = h.looks }
lane_goes z c l _ h = record { scans = h.scans; roots = h.roots; looks = h.looks }

pub marker_goes : (z : Sizes) (c : Core) (m : ℕ) (e : Step) → GoesOn z c → GoesOn z (after_marker z c m e)
marker_goes z c m (Shade u) h = record { scans = moves_some (marks c u (OnStack m)) m (c.scan m) h.scans; roots = h.roots; looks = h.looks }
marker_goes z c m (LoadCell (CellOf u k)) h = record { scans = finds_some c m (c.scan m) (c.cell k) refl h.scans; roots = h.roots; looks = h.looks }
marker_goes z c m (LoadCell (StrongOf of n)) h = h
marker_goes z c m (LoadHead u) h = record { scans = head_some c m u (c.scan m) h.scans; roots = h.roots; looks = h.looks }
marker_goes z c m _ h = record { scans = h.scans; roots = h.roots; looks = h.looks }

-- ---- the collector's job

rests_roots : (z : Sizes) (job : Job) (hand : Option ℕ) (found : ℕ → Bool) → roots_done z (cond (roots_done z job hand found) NoJob job) hand found ≡ false
rests_roots z job hand found = go (roots_done z job hand found) refl
  where
    go : (b : Bool) → roots_done z job hand found ≡ b → roots_done z (cond b NoJob job) hand found ≡ false
    go true e = refl
    go false e = e

rests_looks : (z : Sizes) (b : Bool) (job : Job) → LooksInRange z job → LooksInRange z (cond b NoJob job)
rests_looks z true job h = tt
rests_looks z false job h = h

-- after an event of the collector at the root set
pub rests_go : (z : Sizes) (c d : Core) → d.scan ≡ c.scan → LooksInRange z d.job → GoesOn z c → GoesOn z (record d { job = cond (roots_done z d.job d.own_hand d.own_found) NoJob d.job })
rests_go z c d same looks h = record {
  scans = λ m s e. h.scans m s (ap (λ (f : ℕ → Option Scan). f m) (sym same) ∙ e);
  roots = rests_roots z d.job d.own_hand d.own_found;
  looks = rests_looks z (roots_done z d.job d.own_hand d.own_found) d.job looks;
}

begins_go : (z : Sizes) (c : Core) (b : Bool) → 0 < root_places z → GoesOn z c → GoesOn z (begins_by b c)
begins_go z c false some h = h
begins_go z c true some h = record { scans = h.scans; roots = ap (λ (b : Bool). b && (is_none c.own_hand && none_set c.own_found z.units)) more; looks = tt }
  where
    more : nat_le (root_places z) 0 ≡ false
    more = search rules

first_goes : (z : Sizes) (c : Core) → GoesOn z c → GoesOn z (record c { dirty = false; job = first_look z })
first_goes z c h = go (nat_lt 0 (words z)) refl
  where
    go : (b : Bool) → nat_lt 0 (words z) ≡ b → GoesOn z (record c { dirty = false; job = cond b (Look 0 0) (looked_all z) })
    go true e = record { scans = h.scans; roots = refl; looks = inl (omega arith, search rules) }
    go false e = record { scans = h.scans; roots = refl; looks = inr (refl, refl) }

next_in : (z : Sizes) (r w : ℕ) → r ≤ z.markers → w < words z → (LooksInRange z (next_word z r w)) × ((hand : Option ℕ) (found : ℕ → Bool) → roots_done z (next_word z r w) hand found ≡ false)
next_in z r w row word = go (nat_lt (w + 1) (words z)) refl
  where
    next_row : LooksInRange z (Look (r + 1) 0)
    next_row = pick (nat_lt r z.markers) refl
      where
        pick : (b : Bool) → nat_lt r z.markers ≡ b → LooksInRange z (Look (r + 1) 0)
        pick true e = inl ((let lt : r < z.markers = search rules in omega arith), omega arith)
        pick false e = inr ((let ge : z.markers ≤ r = search rules in omega arith), refl)

    go : (b : Bool) → nat_lt (w + 1) (words z) ≡ b
        → (LooksInRange z (cond b (Look r (w + 1)) (Look (r + 1) 0)))
        × ((hand : Option ℕ) (found : ℕ → Bool) → roots_done z (cond b (Look r (w + 1)) (Look (r + 1) 0)) hand found ≡ false)
    go true e = (inl (row, search rules), λ hand found. refl)
    go false e = (next_row, λ hand found. refl)

looks_go : (z : Sizes) (c : Core) (r w : ℕ) (job : Job) → c.job ≡ job → r ≤ z.markers → w < words z → GoesOn z c → GoesOn z (record c { job = looks z c.place job r w })
looks_go z c r w NoJob at row word h = record { scans = h.scans; roots = refl; looks = tt }
looks_go z c r w (Roots p) at row word h = record { scans = h.scans; roots = ap (λ (j : Job). roots_done z j c.own_hand c.own_found) (sym at) ∙ h.roots; looks = tt }
looks_go z c r w (Look a b) at row word h = go ((a == r) && (b == w)) refl (is_zero_word c.place r w)
  where
    go : (t : Bool) → ((a == r) && (b == w)) ≡ t → (zero_is : Bool) → GoesOn z (record c { job = cond t (cond zero_is (next_word z r w) NoJob) (Look a b) })
    go true e true = let next = next_in z r w row word in record { scans = h.scans; roots = next.1 c.own_hand c.own_found; looks = next.0 }
    go true e false = record { scans = h.scans; roots = refl; looks = tt }
    go false e zero_is = record { scans = h.scans; roots = refl; looks = subst (λ (j : Job). LooksInRange z j) at h.looks }

commits_go : (z : Sizes) (c : Core) (b : Bool) → GoesOn z c → GoesOn z (commits_by b c)
commits_go z c true h = record { scans = h.scans; roots = refl; looks = tt }
commits_go z c false h = record { scans = h.scans; roots = refl; looks = tt }

pub collector_goes : (z : Sizes) (c : Core) (e : Step) → 0 < root_places z → CollectorMay z c e → GoesOn z c → GoesOn z (after_collector z c e)
collector_goes z c BeginExchange some may h = begins_go z c (frames z c == 0) some h
collector_goes z c (Shade u) some may h = rests_go z c (record (marks c u InCollector) { own_hand = cond (c.marked u) c.own_hand (Some u); own_found = set_at c.own_found u false }) refl h.looks h
collector_goes z c (LoadCell (StrongOf of n)) some may h =
    rests_go z c (record c { job = Roots (strong_place z of n + 1); own_found = finds_root c.own_found (c.root (strong_place z of n)) }) refl tt h
collector_goes z c (LoadCell (CellOf u k)) some may h = absurd may
collector_goes z c (AddRow r u) some may h = rests_go z c (record c { place = set_at c.place u (InRow r); own_hand = None }) refl h.looks h
collector_goes z c ClearDirty some may h = first_goes z c h
collector_goes z c (LoadRow r w) some may h = looks_go z c r w c.job refl may.0 may.1 h
collector_goes z c CommitExchange some may h = commits_go z c ((frames z c == 0) && not c.dirty) h
collector_goes z c (RootBit bit u None) some may h = rests_go z c (record c { job = Roots (bit + 1); own_found = finds_root c.own_found (c.root bit) }) refl tt h
collector_goes z c (LoadHead u) some may h = h
collector_goes z c (DoomHead u) some may h = record { scans = h.scans; roots = h.roots; looks = h.looks }
collector_goes z c Settle some may h = record { scans = h.scans; roots = h.roots; looks = h.looks }
collector_goes z c _ some may h = absurd may

step_goes : (z : Sizes) (c : Core) (a : Actor) (e : Step) → 0 < root_places z → Allowed z c a e → GoesOn z c → GoesOn z (after_step z c a e)
step_goes z c (Lane l) e some may h = lane_goes z c l e h
step_goes z c (Marker m) e some may h = marker_goes z c m e h
step_goes z c Collector e some may h = collector_goes z c e some may h

pub nobody_is_stuck : (z : Sizes) → NobodyIsStuck z
nobody_is_stuck z = record {
  start = λ cells. record { scans = λ m s wrong. absurd cc; roots = refl; looks = tt };
  bare = λ marked cells. record { scans = λ m s wrong. absurd cc; roots = refl; looks = tt };
  step = step_goes z;
  made = λ c l u cells h. record { scans = h.scans; roots = h.roots; looks = h.looks };
  cleared = λ c u gone left h. record { scans = h.scans; roots = h.roots; looks = h.looks };
  loosened = λ c u v own left bit by_cell by_strong h. record { scans = h.scans; roots = h.roots; looks = h.looks };
}
