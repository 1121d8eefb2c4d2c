-- A marking can end: events that lead to a commit.
use Rattle.std.proofs.Common.{◌≡◌, ℕ, zero, suc, ◌+◌, ◌-◌, ◌*◌, ◌/◌, ◌%◌, ◌<◌, ◌≤◌, ◌==◌, ◌&&◌, nat_lt, nat_le, refl, sym, subst, ap, ◌∙◌, inl, inr, arith, rules, Bool, cond, true, false, not, List, [], ◌∷◌, ◌⊎◌, Option, Some, None}
use Rattle.std.proofs.lemmas.Bool.{eqb-true, eq-eqb}
use Rattle.std.proofs.lemmas.Nat.{div_below, div-add-mod'}
use Rattle.std.proofs.Math.Nat.{mod-lt}
use Rattle.mark_core.specs.Changes.{set_at, has, is_empty}
use Rattle.mark_core.specs.Machine.{Marking, Gathering, Actor, Lane, Marker, Collector, CellOf, StrongOf, Place, Nowhere, InRow, OnStack, UnderScan, InHand, InCollector, Scan, Job, NoJob, Roots, Look, Sizes, strong_place, root_places, words, Core, count_below, frames, same_place}
use Rattle.mark_core.specs.Steps.{Step, FrameOpen, FrameClose, Shade, LoadCell, AddRow, TakeRow, SetDirty, ClearDirty, LoadRow, CommitExchange, LoadHead, DoomHead, Settle, RootBit, IsFree, LaneMay, after_lane, none_set, no_stack, looked_all, behind, marks, moves_on, finds, goes_on, starts, is_roots, found_of, marker_loads, finds_root, rests, roots_done, is_zero_word, next_word, looks, commits_by, MarkerMay, CollectorMay, Allowed, after_marker, after_step}
use Rattle.mark_core.specs.Lawful.{Lawful, AtWork, FoundNone}
use Rattle.mark_core.specs.Laws.{Commits}
use Rattle.mark_core.specs.GoesOn.{LooksInRange, GoesOn, LeadsTo, MarkingsCanEnd, IsIdle, GatheringsCanEnd}
use Rattle.mark_core.proofs.Tools.{at_set, set_here, same_or_not, not_false, count-less, in_or_beyond, or_left, and_true, not_true, live_alive, same_place_true}
use Rattle.mark_core.proofs.Ranges.{alive_in, grey_in, live_in}
use Rattle.mark_core.proofs.Scans.{scans_open}
use Rattle.mark_core.proofs.Shades.{marker_shades}
use Rattle.mark_core.proofs.Steps.{step_lawful, moves_only, finds_only, head_only}
use Rattle.mark_core.proofs.Collects.{none_set_is, look_stopped}
use Rattle.mark_core.proofs.Stuck.{lane_goes, marker_goes, rests_go}
use Rattle.mark_core.proofs.Sums.{sum_below, sum_less, count_one}
use Rattle.mark_core.proofs.Weights.{weight, goes_less, found_less, marks_le, starts_less, takes_less}

-- ---- one event more in front

abbrev LeadsToCommit : Sizes → Core → Type 0
LeadsToCommit z c = LeadsTo (Commits z) z c

more_to : (Goal : Core → Type 0) (z : Sizes) (c : Core) (a : Actor) (e : Step) → Allowed z c a e → LeadsTo Goal z (after_step z c a e) → LeadsTo Goal z c
more_to Goal z c a e may l = record { events = (a, e) ∷ l.events; allowed = (may, l.allowed); there = l.there }

more : (z : Sizes) (c : Core) (a : Actor) (e : Step) → Allowed z c a e → LeadsToCommit z (after_step z c a e) → LeadsToCommit z c
more z c a e may l = more_to (Commits z) z c a e may l

-- a machine that marks, with no lane's frame open
record Marks (z : Sizes) (c : Core) : Type 0 where
  marking : c.phase ≡ Marking
  lanes : (l : ℕ) → c.lane_open l ≡ false
  goes : GoesOn z c
  lawful : Lawful z c

-- events of markers leave the gate's phase, the lanes and the collector alone
marker_phase : (z : Sizes) (c : Core) (m : ℕ) (e : Step) → (after_marker z c m e).phase ≡ c.phase
marker_phase z c m (LoadCell (CellOf u k)) = refl
marker_phase z c m (LoadCell (StrongOf of n)) = refl
marker_phase z c m _ = refl

marker_lanes : (z : Sizes) (c : Core) (m : ℕ) (e : Step) → (after_marker z c m e).lane_open ≡ c.lane_open
marker_lanes z c m (LoadCell (CellOf u k)) = refl
marker_lanes z c m (LoadCell (StrongOf of n)) = refl
marker_lanes z c m _ = refl

marker_job : (z : Sizes) (c : Core) (m : ℕ) (e : Step) → (after_marker z c m e).job ≡ c.job
marker_job z c m (LoadCell (CellOf u k)) = refl
marker_job z c m (LoadCell (StrongOf of n)) = refl
marker_job z c m _ = refl

marker_marks : (z : Sizes) (c : Core) (m : ℕ) (e : Step) → m < z.markers → MarkerMay z c m e → Marks z c → Marks z (after_marker z c m e)
marker_marks z c m e lt may h = record {
  marking = marker_phase z c m e ∙ h.marking;
  lanes = λ l. ap (λ (f : ℕ → Bool). f l) (marker_lanes z c m e) ∙ h.lanes l;
  goes = marker_goes z c m e h.goes;
  lawful = step_lawful z c (Marker m) e (lt, may) h.lawful;
}

marker_in : (z : Sizes) (c : Core) (m : ℕ) → c.marker_open m ≡ true → Lawful z c → m < z.markers
marker_in z c m on h = go (nat_lt m z.markers) refl
  where
    go : (b : Bool) → nat_lt m z.markers ≡ b → m < z.markers
    go true e = search rules
    go false e = absurd (let off = h.open_in.markers m (search rules) in cc)

-- ---- the collector looks at all words

module _ (z : Sizes) (c : Core) (stop : (r w : ℕ) → is_zero_word c.place r w ≡ false → LeadsToCommit z (record c { job = NoJob })) (last : LeadsToCommit z (record c { job = looked_all z })) where
  after_word : (r w : ℕ) → r ≤ z.markers → w < words z → LeadsToCommit z (record c { job = next_word z r w }) → LeadsToCommit z (record c { job = Look r w })
  after_word r w row word next =
      more z (record c { job = Look r w }) Collector (LoadRow r w) (row, word)
      (subst (λ (j : Job). LeadsToCommit z (record c { job = j })) (sym looked) (pick (is_zero_word c.place r w) refl))
    where
      same : ((r == r) && (w == w)) ≡ true
      same = ap (λ (b : Bool). b && (w == w)) (eq-eqb r r refl) ∙ eq-eqb w w refl

      looked : looks z c.place (Look r w) r w ≡ cond (is_zero_word c.place r w) (next_word z r w) NoJob
      looked = ap (λ (b : Bool). cond b (cond (is_zero_word c.place r w) (next_word z r w) NoJob) (Look r w)) same

      pick : (b : Bool) → is_zero_word c.place r w ≡ b → LeadsToCommit z (record c { job = cond b (next_word z r w) NoJob })
      pick true e = next
      pick false e = stop r w e

  -- so many words of a row are left, and then the next row
  row_words : (r : ℕ) → r ≤ z.markers → LeadsToCommit z (record c { job = Look (r + 1) 0 }) → (k w : ℕ) → w + suc k ≡ words z → LeadsToCommit z (record c { job = Look r w })
  row_words r row next zero w sum = after_word r w row (omega arith) (subst (λ (b : Bool). LeadsToCommit z (record c { job = cond b (Look r (w + 1)) (Look (r + 1) 0) })) (sym end) next)
    where
      end : nat_lt (w + 1) (words z) ≡ false
      end = let all : words z ≤ w + 1 = omega arith in search rules
  row_words r row next (suc k) w sum =
      after_word r w row (omega arith) (subst (λ (b : Bool). LeadsToCommit z (record c { job = cond b (Look r (w + 1)) (Look (r + 1) 0) })) (sym on) (row_words r row next k (w + 1) (omega arith)))
    where
      on : nat_lt (w + 1) (words z) ≡ true
      on = let some : w + 1 < words z = omega arith in search rules

  -- so many rows are left
  rows_left : 0 < words z → (k r : ℕ) → r + k ≡ z.markers + 1 → LeadsToCommit z (record c { job = Look r 0 })
  rows_left some zero r sum = subst (λ (n : ℕ). LeadsToCommit z (record c { job = Look n 0 })) (let e : z.markers + 1 ≡ r = omega arith in e) last
  rows_left some (suc k) r sum = row_words r (omega arith) (rows_left some k (r + 1) (omega arith)) (words z - 1) 0 (omega arith)

  pub look_on : (r w : ℕ) → LooksInRange z (Look r w) → LeadsToCommit z (record c { job = Look r w })
  look_on r w (inl at) =
      let row : r ≤ z.markers = at.0 in
      let word : w < words z = at.1 in
      row_words r row (rows_left (omega arith) (z.markers - r) (r + 1) (omega arith)) (words z - w - 1) w (omega arith)
  look_on r w (inr at) = subst (λ (j : Job). LeadsToCommit z (record c { job = j })) (let e : Look (z.markers + 1) 0 ≡ Look r w = (λ i. Look (sym at.0 i) (sym at.1 i)) in e) last

-- ---- nothing is grey: frames are closed, and the collector looks

none_below : (f : ℕ → Bool) (n : ℕ) → ((i : ℕ) → f i ≡ false) → count_below f n ≡ 0
unfolding count_below
none_below f zero off = refl
none_below f (suc n) off = subst (λ (b : Bool). cond b (suc (count_below f n)) (count_below f n) ≡ 0) (sym (off n)) (none_below f n off)

none_set_from : (f : ℕ → Bool) (n : ℕ) → ((i : ℕ) → f i ≡ false) → none_set f n ≡ true
unfolding none_set
none_set_from f zero off = refl
none_set_from f (suc n) off = subst (λ (b : Bool). cond b false (none_set f n) ≡ true) (sym (off n)) (none_set_from f n off)

record Quiet (z : Sizes) (c : Core) : Type 0 where
  marks : Marks z c
  job : c.job ≡ NoJob
  places : (u : ℕ) → c.place u ≡ Nowhere

-- a place of nobody is none of these
nowhere_row : (p : Place) (r : ℕ) → p ≡ Nowhere → same_place p (InRow r) ≡ false
nowhere_row Nowhere r e = refl
nowhere_row (InRow a) r e = absurd cc
nowhere_row (OnStack a) r e = absurd cc
nowhere_row (UnderScan a) r e = absurd cc
nowhere_row (InHand a) r e = absurd cc
nowhere_row InCollector r e = absurd cc

nowhere_stack : (p : Place) (m : ℕ) → p ≡ Nowhere → same_place p (OnStack m) ≡ false
nowhere_stack Nowhere m e = refl
nowhere_stack (InRow a) m e = absurd cc
nowhere_stack (OnStack a) m e = absurd cc
nowhere_stack (UnderScan a) m e = absurd cc
nowhere_stack (InHand a) m e = absurd cc
nowhere_stack InCollector m e = absurd cc

ends_now : (z : Sizes) (c : Core) → Quiet z c → ((m : ℕ) → c.marker_open m ≡ false) → LeadsToCommit z c
ends_now z c q shut = more z c Collector ClearDirty (q.job, q.marks.marking) (look_first (nat_lt 0 (words z)) refl)
  where
    no_frames : frames z c ≡ 0
    no_frames = let a = none_below c.lane_open z.lanes q.marks.lanes in let b = none_below c.marker_open z.markers shut in omega arith

    zero_words : (r w : ℕ) → is_zero_word c.place r w ≡ true
    zero_words r w = none_set_from (λ i. same_place (c.place (64 * w + i)) (InRow r)) 64 (λ i. nowhere_row (c.place (64 * w + i)) r (q.places (64 * w + i)))

    clean : Core
    clean = record c { dirty = false }

    last : LeadsToCommit z (record c { dirty = false; job = looked_all z })
    last = record { events = []; allowed = tt; there = record { may = refl; no_frame = no_frames; clean = refl } }

    look_first : (b : Bool) → nat_lt 0 (words z) ≡ b → LeadsToCommit z (record c { dirty = false; job = cond b (Look 0 0) (looked_all z) })
    look_first true e = look_on z (record c { dirty = false }) (λ r w off. absurd (let on = zero_words r w in cc)) last 0 0 (inl (omega arith, search rules))
    look_first false e = last

-- one more is closed
shut_from : (f : ℕ → Bool) (k : ℕ) → ((m : ℕ) → suc k ≤ m → f m ≡ false) → f k ≡ false → (m : ℕ) → k ≤ m → f m ≡ false
shut_from f k far off m le = pick (same_or_not m k)
  where
    pick : (m ≡ k) ⊎ (m ≡ k → ⊥) → f m ≡ false
    pick (inl e) = ap f e ∙ off
    pick (inr n) = far m (omega (arith, n))

-- markers from k on are closed
closing : (z : Sizes) (k : ℕ) (c : Core) → k ≤ z.markers → Quiet z c → ((m : ℕ) → k ≤ m → c.marker_open m ≡ false) → LeadsToCommit z c
closing z zero c le q shut = ends_now z c q (λ m. shut m (omega arith))
closing z (suc k) c le q shut = go (c.marker_open k) (c.marker_owes k) refl refl (closing z k)
  where
    no_scan : (d : Core) → Quiet z d → d.scan k ≡ None
    no_scan d p = pick (d.scan k) refl
      where
        pick : (o : Option Scan) → d.scan k ≡ o → d.scan k ≡ None
        pick None e = e
        pick (Some s) e = absurd (let under = p.marks.lawful.standing.under k s e in let none = p.places s.unit in cc)

    empty : (d : Core) → Quiet z d → no_stack z d.place k ≡ true
    empty d p = none_set_from (λ u. same_place (d.place u) (OnStack k)) z.units (λ u. nowhere_stack (d.place u) k (p.places u))

    close : (d : Core) → Quiet z d → d.marker_open k ≡ true → d.marker_owes k ≡ false → ((m : ℕ) → suc k ≤ m → d.marker_open m ≡ false)
        → ((e : Core) → k ≤ z.markers → Quiet z e → ((m : ℕ) → k ≤ m → e.marker_open m ≡ false) → LeadsToCommit z e) → LeadsToCommit z d
    close d p on clear far next =
        let may : MarkerMay z d k FrameClose = (on, no_scan d p, clear, empty d p) in
        more z d (Marker k) FrameClose (omega arith, may)
        (next (record d { marker_open = set_at d.marker_open k false }) (omega arith)
        (record { marks = marker_marks z d k FrameClose (omega arith) may p.marks; job = p.job; places = p.places })
        (shut_from (set_at d.marker_open k false) k (λ m le_m. at_set (λ b. b ≡ false) d.marker_open k false m (λ same. refl) (λ n. far m le_m)) (set_here d.marker_open k false k refl)))

    go : (opened owes : Bool) → c.marker_open k ≡ opened → c.marker_owes k ≡ owes
        → ((e : Core) → k ≤ z.markers → Quiet z e → ((m : ℕ) → k ≤ m → e.marker_open m ≡ false) → LeadsToCommit z e) → LeadsToCommit z c
    go false owes off o next = next c (omega arith) q (shut_from c.marker_open k shut off)
    go true false on clear next = close c q on clear shut next
    go true true on owes next =
        more z c (Marker k) SetDirty (omega arith, owes)
        (close (record c { dirty = true; marker_owes = set_at c.marker_owes k false })
        (record { marks = marker_marks z c k SetDirty (omega arith) owes q.marks; job = q.job; places = q.places })
        on (set_here c.marker_owes k false k refl) shut next)

-- ---- a marker moves a grey unit on

-- what is reached by some events, with less left to do
record Moves (z : Sizes) (c : Core) : Type 0 where
  next : Core
  marks : Marks z next
  job : next.job ≡ NoJob
  less : weight z next < weight z c
  back : LeadsToCommit z next → LeadsToCommit z c

moved_by : (z : Sizes) (c : Core) (m : ℕ) (e : Step) → m < z.markers → MarkerMay z c m e → Marks z c → c.job ≡ NoJob → weight z (after_marker z c m e) < weight z c → Moves z c
moved_by z c m e lt may h at less = record {
  next = after_marker z c m e;
  marks = marker_marks z c m e lt may h;
  job = marker_job z c m e ∙ at;
  less = less;
  back = more z c (Marker m) e (lt, may);
}

module _ (z : Sizes) (c : Core) (h : Marks z c) (idle : c.job ≡ NoJob) where
  -- a scan goes on
  scan_moves : (m : ℕ) (s : Scan) → c.scan m ≡ Some s → Moves z c
  scan_moves m s at = go s.left refl s.found refl
    where
      lt : m < z.markers
      lt = marker_in z c m (scans_open z c m s at h.lawful) h.lawful

      go : (ns : List ℕ) → s.left ≡ ns → (o : Option ℕ) → s.found ≡ o → Moves z c
      go [] e o f = absurd (let some = h.goes.scans m s at in let none : is_empty s.left ≡ true = ap is_empty e in cc)
      go (n ∷ rest) e None f =
          let own : has (c.cells s.unit) n ≡ true = h.lawful.scans_own m s n at (ap (λ (xs : List ℕ). has xs n) e ∙ first) in
          let is : c.scan m ≡ Some (record { unit = s.unit; left = n ∷ rest; found = None }) = at ∙ (λ i. Some (record { unit = s.unit; left = e i; found = f i })) in
          moved_by z c m (LoadCell (CellOf s.unit n)) lt (rest, is, own) h idle
          (subst (λ (d : Core). weight z d < weight z c) (finds_only c m (c.scan m) (c.cell n))
          (subst (λ (o : Option Scan). weight z (finds c m o (c.cell n)) < weight z c) (sym at) (loads (c.cell n))))
        where
          first : has (n ∷ rest) n ≡ true
          first = or_left (n == n) (has rest n) (eq-eqb n n refl)

          loads : (got : Option ℕ) → weight z (finds c m (Some s) got) < weight z c
          loads None = goes_less z c m s n rest at e h.lawful
          loads (Some t) = found_less z c m s t at f h.lawful
      go (n ∷ rest) e (Some t) f =
          let found : found_of (c.scan m) ≡ Some t = ap found_of at ∙ f in
          moved_by z c m (Shade t) lt (h.marking, found) h idle
          (subst (λ (d : Core). weight z d < weight z c) (moves_only (marks c t (OnStack m)) m (c.scan m))
          (subst (λ (o : Option Scan). weight z (moves_on (marks c t (OnStack m)) m o) < weight z c) (sym at) settles))
        where
          shaded : Lawful z (marks c t (OnStack m))
          shaded = marker_shades z c m t (scans_open z c m s at h.lawful) h.marking (live_alive c.phase c.doomed c.marked t (h.lawful.found.markers m s t at f)) h.lawful

          settles : weight z (goes_on (marks c t (OnStack m)) m s (behind s.left)) < weight z c
          settles = let a = goes_less z (marks c t (OnStack m)) m s n rest at e shaded in let b = marks_le z c m t h.lawful in omega arith

  -- a unit goes from a stack under the scan, if there is none yet
  stack_moves : (m u : ℕ) → c.place u ≡ OnStack m → Moves z c
  stack_moves m u at = go (c.scan m) refl
    where
      opened : c.marker_open m ≡ true
      opened = not_false (c.marker_open m) (λ off. h.lawful.stacks_in m u off at)

      go : (o : Option Scan) → c.scan m ≡ o → Moves z c
      go (Some s) e = scan_moves m s e
      go None e =
          moved_by z c m (LoadHead u) (marker_in z c m opened h.lawful) (grey_in z c u (λ none. absurd cc) h.lawful) h idle
          (subst (λ (d : Core). weight z d < weight z c) (head_only c m u (c.scan m))
          (subst (λ (o : Option Scan). weight z (marker_loads c m u o) < weight z c) (sym e)
          (subst (λ (b : Bool). weight z (cond b (starts c m u (c.cells u)) c) < weight z c) (sym here) (starts_less z c m u e at h.lawful))))
        where
          here : same_place (c.place u) (OnStack m) ≡ true
          here = ap (λ (p : Place). same_place p (OnStack m)) at ∙ eq-eqb m m refl

-- one that passes the test, or none below n
find_one : (f : ℕ → Bool) (n : ℕ) → ((i : ℕ) × (f i ≡ true)) ⊎ (none_set f n ≡ true)
unfolding none_set
find_one f zero = inr refl
find_one f (suc n) = go (f n) refl (find_one f n)
  where
    go : (b : Bool) → f n ≡ b → ((i : ℕ) × (f i ≡ true)) ⊎ (none_set f n ≡ true) → ((i : ℕ) × (f i ≡ true)) ⊎ (cond b false (none_set f n) ≡ true)
    go true e rest = inl (n, e)
    go false e (inl one) = inl one
    go false e (inr none) = inr none

-- an open marker takes a word of a row, unless it has something to do
taken_by : (z : Sizes) (c : Core) (m r u : ℕ) → c.place u ≡ InRow r → c.marker_open m ≡ true → Marks z c → c.job ≡ NoJob → Moves z c
taken_by z c m r u at on h idle = go (c.scan m) refl (find_one (λ v. same_place (c.place v) (OnStack m)) z.units)
  where
    word_in : u / 64 < words z
    word_in = let lt = grey_in z c u (λ none. absurd cc) h.lawful in omega arith

    go : (o : Option Scan) → c.scan m ≡ o → ((v : ℕ) × (same_place (c.place v) (OnStack m) ≡ true)) ⊎ (none_set (λ v. same_place (c.place v) (OnStack m)) z.units ≡ true) → Moves z c
    go (Some s) e found = scan_moves z c h idle m s e
    go None e (inl one) = stack_moves z c h idle m one.0 (same_place_true (c.place one.0) (OnStack m) one.1)
    go None e (inr none) = moved_by z c m (TakeRow r (u / 64)) (marker_in z c m on h.lawful) (on, e, none, h.lawful.standing.rows u r at, word_in) h idle (takes_less z c m r u at h.lawful)

move : (z : Sizes) (c : Core) (u : ℕ) → 0 < z.markers → (c.place u ≡ Nowhere → ⊥) → Marks z c → c.job ≡ NoJob → Moves z c
move z c u some grey h idle = go (c.place u) refl
  where
    work : (c.own_hand ≡ None) × FoundNone c.own_found
    work = subst (λ (j : Job). AtWork c.phase j c.own_hand c.own_found) idle h.lawful.work

    in_row : (r : ℕ) → c.place u ≡ InRow r → (b : Bool) → c.marker_open 0 ≡ b → Moves z c
    in_row r at true on = taken_by z c 0 r u at on h idle
    in_row r at false off =
        let d : Core = record c { marker_open = set_at c.marker_open 0 true } in
        let opened = taken_by z (record c { marker_open = set_at c.marker_open 0 true }) 0 r u at (set_here c.marker_open 0 true 0 refl) (marker_marks z c 0 FrameOpen some off h) idle in
        record { next = opened.next; marks = opened.marks; job = opened.job; less = opened.less; back = λ l. more z c (Marker 0) FrameOpen (some, off) (opened.back l) }

    go : (p : Place) → c.place u ≡ p → Moves z c
    go Nowhere e = absurd (grey e)
    go (InRow r) e = in_row r e (c.marker_open 0) refl
    go (OnStack m) e = stack_moves z c h idle m u e
    go (UnderScan m) e = let s = h.lawful.standing.scans u m e in scan_moves z c h idle m s.0 s.1
    go (InHand l) e = absurd (let mine = h.lawful.standing.hands u l e in let none = h.lawful.lanes.hand_is l (h.lanes l) in cc)
    go InCollector e = absurd (let mine = h.lawful.standing.own u e in let none = work.0 in cc)

-- ---- the markers finish

is_grey : Place → Bool
is_grey Nowhere = false
is_grey _ = true

grey_is : (p : Place) → is_grey p ≡ true → p ≡ Nowhere → ⊥
unfolding is_grey
grey_is Nowhere e f = absurd cc
grey_is (InRow r) e f = absurd cc
grey_is (OnStack m) e f = absurd cc
grey_is (UnderScan m) e f = absurd cc
grey_is (InHand l) e f = absurd cc
grey_is InCollector e f = absurd cc

grey_not : (p : Place) → is_grey p ≡ false → p ≡ Nowhere
unfolding is_grey
grey_not Nowhere e = refl
grey_not (InRow r) e = absurd cc
grey_not (OnStack m) e = absurd cc
grey_not (UnderScan m) e = absurd cc
grey_not (InHand l) e = absurd cc
grey_not InCollector e = absurd cc

finish : (z : Sizes) (n : ℕ) (c : Core) → 0 < z.markers → Marks z c → c.job ≡ NoJob → weight z c < n → LeadsToCommit z c
finish z zero c some h idle less = absurd (omega arith)
finish z (suc n) c some h idle less = go (find_one (λ u. is_grey (c.place u)) z.units) (finish z n)
  where
    nowhere : none_set (λ u. is_grey (c.place u)) z.units ≡ true → (u : ℕ) → c.place u ≡ Nowhere
    nowhere none u = pick (in_or_beyond z u)
      where
        pick : (u < z.units) ⊎ (z.units ≤ u) → c.place u ≡ Nowhere
        pick (inl lt) = grey_not (c.place u) (none_set_is (λ v. is_grey (c.place v)) z.units none u lt)
        pick (inr far) = h.lawful.grey.doomed_is u (h.lawful.beyond u far)

    go : ((u : ℕ) × (is_grey (c.place u) ≡ true)) ⊎ (none_set (λ u. is_grey (c.place u)) z.units ≡ true)
        → ((d : Core) → 0 < z.markers → Marks z d → d.job ≡ NoJob → weight z d < n → LeadsToCommit z d) → LeadsToCommit z c
    go (inl one) next = let m = move z c one.0 some (grey_is (c.place one.0) one.1) h idle in m.back (next m.next some m.marks m.job (let fewer = m.less in omega arith))
    go (inr none) next = closing z z.markers c (omega arith) (record { marks = h; job = idle; places = nowhere none }) (λ m far. h.lawful.open_in.markers m far)

finished : (z : Sizes) (c : Core) → 0 < z.markers → Marks z c → c.job ≡ NoJob → LeadsToCommit z c
finished z c some h idle = finish z (suc (weight z c)) c some h idle (omega arith)

-- ---- the collector finishes the root set

-- places to load, units found, and one in hand
abbrev hand_left : Option ℕ → ℕ
hand_left None = 0
hand_left (Some u) = 1

abbrev roots_left : Sizes → ℕ → Option ℕ → (ℕ → Bool) → ℕ
roots_left z p hand found = 3 * (root_places z - p) + (2 * count_below found z.units + hand_left hand)

finds_count : (found : ℕ → Bool) (got : Option ℕ) (n : ℕ) → count_below (finds_root found got) n ≤ suc (count_below found n)
finds_count found None n = omega arith
finds_count found (Some u) n = count_one found u n

-- after an event at the root set: the collector is still there, or is done
module _ (z : Sizes) (some : 0 < z.markers) (n : ℕ) (next : (d : Core) (p : ℕ) → d.job ≡ Roots p → Marks z d → roots_left z p d.own_hand d.own_found < n → LeadsToCommit z d) where
  rested_on : (d : Core) (p : ℕ) → d.job ≡ Roots p → roots_left z p d.own_hand d.own_found < n → Marks z (rests z d) → LeadsToCommit z (rests z d)
  rested_on d p at less h = go (roots_done z d.job d.own_hand d.own_found) refl h
    where
      go : (b : Bool) → roots_done z d.job d.own_hand d.own_found ≡ b → Marks z (record d { job = cond b NoJob d.job }) → LeadsToCommit z (record d { job = cond b NoJob d.job })
      go true e k = finished z (record d { job = NoJob }) some k refl
      go false e k = next (record d { job = d.job }) p at k less

roots_on : (z : Sizes) (c : Core) (p : ℕ) → c.job ≡ Roots p → c.own_hand ≡ None → none_set c.own_found z.units ≡ true → GoesOn z c → p < root_places z
roots_on z c p at empty none goes = go (nat_le (root_places z) p) refl
  where
    done : roots_done z (Roots p) None c.own_found ≡ false
    done = ap (λ (o : Option ℕ). roots_done z (Roots p) o c.own_found) (sym empty) ∙ (ap (λ (j : Job). roots_done z j c.own_hand c.own_found) (sym at) ∙ goes.roots)

    go : (b : Bool) → nat_le (root_places z) p ≡ b → p < root_places z
    go false e = search rules
    go true e = absurd (
        let on : (nat_le (root_places z) p && (true && none_set c.own_found z.units)) ≡ true = ap (λ (b : Bool). b && (true && none_set c.own_found z.units)) e ∙ none in
        let off : (nat_le (root_places z) p && (true && none_set c.own_found z.units)) ≡ false = done in cc)

-- a place behind the root bits is that of a strong pointer
strong_at : (z : Sizes) (p : ℕ) → z.units ≤ p → p < root_places z → (l : ℕ) × (k : ℕ) × (l < z.lanes) × (k < z.strong) × (strong_place z l k ≡ p)
strong_at z p from to = go z.strong refl
  where
    go : (s : ℕ) → z.strong ≡ s → (l : ℕ) × (k : ℕ) × (l < z.lanes) × (k < z.strong) × (strong_place z l k ≡ p)
    go zero e = absurd (let none : z.lanes * z.strong ≡ z.lanes * 0 = ap (λ (x : ℕ). z.lanes * x) e in let zero_is : z.lanes * 0 ≡ 0 = omega arith in omega arith)
    go (suc s) e =
        let some : 0 < z.strong = omega arith in
        let whole = div-add-mod' (p - z.units) z.strong in
        ((p - z.units) / z.strong, (p - z.units) % z.strong, div_below (p - z.units) z.strong z.lanes some (omega arith), mod-lt (p - z.units) some, omega arith)

gather : (z : Sizes) (n : ℕ) (c : Core) (p : ℕ) → 0 < z.markers → c.job ≡ Roots p → Marks z c → roots_left z p c.own_hand c.own_found < n → LeadsToCommit z c
gather z zero c p some at h less = absurd (omega arith)
gather z (suc n) c p some at h less = go c.own_hand refl (find_one c.own_found z.units) (λ d q at_d k fewer. gather z n d q some at_d k fewer)
  where
    -- after an event that leaves this, before it is known whether the root set is done
    goes_by : (d : Core) → d.phase ≡ Marking → ((l : ℕ) → d.lane_open l ≡ false) → d.scan ≡ c.scan → LooksInRange z d.job → Lawful z (rests z d) → Marks z (rests z d)
    goes_by d marking lanes same looks lawful = record { marking = marking; lanes = lanes; goes = rests_go z c d same looks h.goes; lawful = lawful }

    -- a place is loaded
    loaded : (q : ℕ) → q ≡ p → c.own_hand ≡ None → none_set c.own_found z.units ≡ true → roots_left z (q + 1) c.own_hand (finds_root c.own_found (c.root q)) < n
    loaded q same empty none =
        let lt = roots_on z c p at empty none h.goes in
        let count = finds_count c.own_found (c.root q) z.units in
        let no_hand : hand_left c.own_hand ≡ 0 = ap hand_left empty in
        omega arith

    small_hand : (u : ℕ) → c.own_hand ≡ None → (b : Bool) → hand_left (cond b c.own_hand (Some u)) ≤ 1
    small_hand u empty true = let no_hand : hand_left c.own_hand ≡ 0 = ap hand_left empty in omega arith
    small_hand u empty false = omega arith

    go : (hand : Option ℕ) → c.own_hand ≡ hand → ((u : ℕ) × (c.own_found u ≡ true)) ⊎ (none_set c.own_found z.units ≡ true)
        → ((d : Core) (q : ℕ) → d.job ≡ Roots q → Marks z d → roots_left z q d.own_hand d.own_found < n → LeadsToCommit z d) → LeadsToCommit z c
    go (Some u) e found next =
        let may : CollectorMay z c (AddRow z.markers u) = (h.lawful.standing.in_own u e, refl) in
        let one : hand_left c.own_hand ≡ 1 = ap hand_left e in
        more z c Collector (AddRow z.markers u) may
        (rested_on z some n next (record c { place = set_at c.place u (InRow z.markers); own_hand = None }) p at (omega arith)
        (goes_by (record c { place = set_at c.place u (InRow z.markers); own_hand = None }) h.marking h.lanes refl h.goes.looks (step_lawful z c Collector (AddRow z.markers u) may h.lawful)))
    go None e (inl one) next =
        let u = one.0 in
        let may : CollectorMay z c (Shade one.0) = (ap is_roots at, one.1, e, h.marking) in
        let lt = live_in z c one.0 (h.lawful.found.own one.0 one.1) h.lawful in
        let fewer = count-less c.own_found one.0 z.units lt one.1 in
        let small = small_hand one.0 e (c.marked one.0) in
        more z c Collector (Shade one.0) may
        (rested_on z some n next (record (marks c one.0 InCollector) { own_hand = cond (c.marked one.0) c.own_hand (Some one.0); own_found = set_at c.own_found one.0 false }) p at (omega arith)
        (goes_by
        (record (marks c one.0 InCollector)
        { own_hand = cond (c.marked one.0) c.own_hand (Some one.0); own_found = set_at c.own_found one.0 false }) h.marking h.lanes refl
        h.goes.looks (step_lawful z c Collector (Shade one.0) may h.lawful)))
    go None e (inr none) next = pick (in_or_beyond z p)
      where
        pick : (p < z.units) ⊎ (z.units ≤ p) → LeadsToCommit z c
        pick (inl lt) =
            more z c Collector (RootBit p p None) (at, lt)
            (rested_on z some n next (record c { job = Roots (p + 1); own_found = finds_root c.own_found (c.root p) }) (p + 1) refl (loaded p refl e none)
            (goes_by (record c { job = Roots (p + 1); own_found = finds_root c.own_found (c.root p) }) h.marking h.lanes refl tt (step_lawful z c Collector (RootBit p p None) (at, lt) h.lawful)))
        pick (inr far) =
            let spot = strong_at z p far (roots_on z c p at e none h.goes) in
            let may : CollectorMay z c (LoadCell (StrongOf spot.0 spot.1)) = (at ∙ ap Roots (sym spot.4), spot.2, spot.3) in
            more z c Collector (LoadCell (StrongOf spot.0 spot.1)) may
            (rested_on z some n next
            (record c
            { job = Roots (strong_place z spot.0 spot.1 + 1); own_found = finds_root c.own_found (c.root (strong_place z spot.0 spot.1)) })
            (strong_place z spot.0 spot.1 + 1) refl (loaded (strong_place z spot.0 spot.1) spot.4 e none)
            (goes_by
            (record c
            { job = Roots (strong_place z spot.0 spot.1 + 1); own_found = finds_root c.own_found (c.root (strong_place z spot.0 spot.1)) })
            h.marking h.lanes refl tt (step_lawful z c Collector (LoadCell (StrongOf spot.0 spot.1)) may h.lawful)))

-- ---- whatever the collector is at

lanes_closed : (z : Sizes) (c : Core) → 0 < z.markers → c.phase ≡ Marking → ((lane : ℕ) → c.lane_open lane ≡ false) → GoesOn z c → Lawful z c → LeadsToCommit z c
lanes_closed z c some marking lanes goes h = go c.job refl
  where
    now : Marks z c
    now = record { marking = marking; lanes = lanes; goes = goes; lawful = h }

    -- the collector stopped to look
    stopped : (r w : ℕ) → c.job ≡ Look r w → LeadsToCommit z (record c { job = NoJob })
    stopped r w e =
        finished z (record c { job = NoJob }) some
        (record
        { marking = marking; lanes = lanes; goes = record { scans = goes.scans; roots = refl; looks = tt }; lawful = look_stopped z c r w e h })
        refl

    looked : LeadsToCommit z (record c { job = NoJob }) → LeadsToCommit z (record c { job = looked_all z })
    looked stop = pick (frames z c == 0) (c.dirty) refl refl
      where
        both : (a b : Bool) → (frames z c == 0) ≡ a → not c.dirty ≡ b → ((frames z c == 0) && not c.dirty) ≡ (a && b)
        both a b e f = (λ i. e i && f i)

        fails : ((frames z c == 0) && not c.dirty) ≡ false → LeadsToCommit z (record c { job = looked_all z })
        fails e = more z (record c { job = looked_all z }) Collector CommitExchange refl (subst (λ (x : Bool). LeadsToCommit z (commits_by x (record c { job = looked_all z }))) (sym e) stop)

        pick : (a b : Bool) → (frames z c == 0) ≡ a → c.dirty ≡ b → LeadsToCommit z (record c { job = looked_all z })
        pick true false e f = record { events = []; allowed = tt; there = record { may = refl; no_frame = eqb-true (frames z c) 0 e; clean = f } }
        pick true true e f = fails (both true false e (ap not f))
        pick false b e f = fails (both false (not b) e (ap not f))

    go : (j : Job) → c.job ≡ j → LeadsToCommit z c
    go NoJob e = finished z c some now e
    go (Roots p) e = gather z (suc (roots_left z p c.own_hand c.own_found)) c p some e now (omega arith)
    go (Look r w) e =
        subst (λ (j : Job). LeadsToCommit z (record c { job = j })) (sym e)
        (look_on z c (λ a b off. stopped r w e) (looked (stopped r w e)) r w (subst (λ (j : Job). LooksInRange z j) e goes.looks))

-- ---- lanes close their frames

record Runs (z : Sizes) (c : Core) : Type 0 where
  marking : c.phase ≡ Marking
  goes : GoesOn z c
  lawful : Lawful z c

lane_runs : (z : Sizes) (c : Core) (l : ℕ) (e : Step) → l < z.lanes → LaneMay z c l e → (after_lane z c l e).phase ≡ c.phase → Runs z c → Runs z (after_lane z c l e)
lane_runs z c l e lt may same h = record { marking = same ∙ h.marking; goes = lane_goes z c l e h.goes; lawful = step_lawful z c (Lane l) e (lt, may) h.lawful }

-- lanes from k on are closed
lanes_close : (z : Sizes) (k : ℕ) (c : Core) → k ≤ z.lanes → 0 < z.markers → Runs z c → ((l : ℕ) → k ≤ l → c.lane_open l ≡ false) → LeadsToCommit z c
lanes_close z zero c le some h shut = lanes_closed z c some h.marking (λ l. shut l (omega arith)) h.goes h.lawful
lanes_close z (suc k) c le some h shut = go (c.lane_open k) refl (λ d runs closed. lanes_close z k d (omega arith) some runs closed)
  where
    lt : k < z.lanes
    lt = omega arith

    close : (d : Core) → IsFree d k → Runs z d → ((l : ℕ) → suc k ≤ l → d.lane_open l ≡ false)
        → ((e : Core) → Runs z e → ((l : ℕ) → k ≤ l → e.lane_open l ≡ false) → LeadsToCommit z e) → LeadsToCommit z d
    close d free runs far next =
        more z d (Lane k) FrameClose (lt, free)
        (next (after_lane z d k FrameClose) (lane_runs z d k FrameClose lt free refl runs)
        (shut_from (set_at d.lane_open k false) k (λ l le_l. at_set (λ b. b ≡ false) d.lane_open k false l (λ same. refl) (λ n. far l le_l)) (set_here d.lane_open k false k refl)))

    settle : (d : Core) → d.lane_open k ≡ true → d.hand k ≡ None → (owes : Bool) → d.lane_owes k ≡ owes → Runs z d
        → ((l : ℕ) → suc k ≤ l → d.lane_open l ≡ false) → ((e : Core) → Runs z e → ((l : ℕ) → k ≤ l → e.lane_open l ≡ false) → LeadsToCommit z e)
        → LeadsToCommit z d
    settle d on empty false clear runs far next = close d (record { opened = on; hand = empty; owes = clear }) runs far next
    settle d on empty true owes runs far next =
        more z d (Lane k) SetDirty (lt, owes)
        (close (after_lane z d k SetDirty) (record { opened = on; hand = empty; owes = set_here d.lane_owes k false k refl }) (lane_runs z d k SetDirty lt owes refl runs) far next)

    empties : (d : Core) → d.lane_open k ≡ true → (hand : Option ℕ) → d.hand k ≡ hand → Runs z d → ((l : ℕ) → suc k ≤ l → d.lane_open l ≡ false)
        → ((e : Core) → Runs z e → ((l : ℕ) → k ≤ l → e.lane_open l ≡ false) → LeadsToCommit z e) → LeadsToCommit z d
    empties d on None empty runs far next = settle d on empty (d.lane_owes k) refl runs far next
    empties d on (Some u) has_u runs far next =
        let may : LaneMay z d k (AddRow z.markers u) = (runs.lawful.standing.in_hand k u has_u, refl) in
        more z d (Lane k) (AddRow z.markers u) (lt, may)
        (settle (after_lane z d k (AddRow z.markers u)) on (set_here d.hand k None k refl) true (set_here d.lane_owes k true k refl) (lane_runs z d k (AddRow z.markers u) lt may refl runs) far next)

    go : (b : Bool) → c.lane_open k ≡ b → ((e : Core) → Runs z e → ((l : ℕ) → k ≤ l → e.lane_open l ≡ false) → LeadsToCommit z e) → LeadsToCommit z c
    go false off next = next c h (shut_from c.lane_open k shut off)
    go true on next = empties c on (c.hand k) refl h shut next

pub markings_can_end : MarkingsCanEnd
markings_can_end z c some marking goes h = lanes_close z z.lanes c (omega arith) some (record { marking = marking; goes = goes; lawful = h }) h.open_in.lanes

-- ---- units that are not marked are doomed, and the collection ends

white_at : Bool → Bool → ℕ
white_at doomed marked = cond (not doomed && not marked) 1 0

abbrev whites : Sizes → Core → ℕ
whites z c = sum_below (λ u. white_at (c.doomed u) (c.marked u)) z.units

dooming : (z : Sizes) (n : ℕ) (c : Core) → c.phase ≡ Gathering → Lawful z c → whites z c < n → LeadsTo IsIdle z c
unfolding white_at
dooming z zero c gathering h less = absurd (omega arith)
dooming z (suc n) c gathering h less = go (find_one (λ u. not (c.doomed u) && not (c.marked u)) z.units) (λ d. dooming z n d)
  where
    fewer : (u : ℕ) → c.doomed u ≡ false → c.marked u ≡ false → whites z (record c { doomed = set_at c.doomed u true }) < whites z c
    fewer u alive white =
        sum_less (λ v. white_at (set_at c.doomed u true v) (c.marked v)) (λ v. white_at (c.doomed v) (c.marked v)) z.units u (alive_in z c u alive h)
        (λ v. at_set (λ d. white_at d (c.marked v) ≤ white_at (c.doomed v) (c.marked v)) c.doomed u true v (λ e. omega arith) (λ e. omega arith))
        (let gone : white_at (set_at c.doomed u true u) (c.marked u) ≡ 0 = ap (λ (d : Bool). white_at d (c.marked u)) (set_here c.doomed u true u refl) in
        let one : white_at (c.doomed u) (c.marked u) ≡ 1 = (λ i. white_at (alive i) (white i)) in omega arith)

    go : ((u : ℕ) × ((not (c.doomed u) && not (c.marked u)) ≡ true)) ⊎ (none_set (λ u. not (c.doomed u) && not (c.marked u)) z.units ≡ true)
        → ((d : Core) → d.phase ≡ Gathering → Lawful z d → whites z d < n → LeadsTo IsIdle z d) → LeadsTo IsIdle z c
    go (inl one) next =
        let parts = and_true (not (c.doomed one.0)) (not (c.marked one.0)) one.1 in
        let alive = not_true (c.doomed one.0) parts.0 in
        let white = not_true (c.marked one.0) parts.1 in
        let less_now = fewer one.0 alive white in
        more_to IsIdle z c Collector (DoomHead one.0) (gathering, white, alive)
        (next (record c { doomed = set_at c.doomed one.0 true }) gathering (step_lawful z c Collector (DoomHead one.0) (gathering, white, alive) h) (omega arith))
    go (inr none) next = more_to IsIdle z c Collector Settle (gathering, none) (record { events = []; allowed = tt; there = refl })

pub gatherings_can_end : GatheringsCanEnd
gatherings_can_end z c gathering h = dooming z (suc (whites z c)) c gathering h (omega arith)
