-- The phase changes; units are doomed.
use Rattle.std.proofs.Common.{◌≡◌, ℕ, ◌+◌, ◌&&◌, ◌==◌, nat_lt, refl, sym, subst, ap, ◌∙◌, inl, inr, arith, rules, Bool, true, false, not, Option, None}
use Rattle.std.proofs.lemmas.Bool.{eqb-true}
use Rattle.mark_core.specs.Changes.{set_at}
use Rattle.mark_core.specs.Machine.{Phase, Idle, Marking, Gathering, Place, Nowhere, InRow, OnStack, UnderScan, InHand, InCollector, Job, NoJob, Roots, Look, Sizes, frames, Core}
use Rattle.mark_core.specs.Steps.{is_live, begins_by, commits_by}
use Rattle.mark_core.specs.Lawful.{Lawful, AtWork, FoundNone, LookedAt, Unloaded, CellsLive, RootsLive, HeldLive, FoundLive}
use Rattle.mark_core.proofs.Tools.{at_set, set_there, not_false, not_true, count-zero, and_true, live_alive, live_marking, live_marked, live_is_marked}
use Rattle.mark_core.proofs.Collects.{roots_marked, look_stopped}

pub lane_closed : (z : Sizes) (c : Core) (l : ℕ) → frames z c ≡ 0 → Lawful z c → c.lane_open l ≡ false
lane_closed z c l none h = go (nat_lt l z.lanes) refl
  where
    go : (b : Bool) → nat_lt l z.lanes ≡ b → c.lane_open l ≡ false
    go true e = count-zero c.lane_open z.lanes (omega arith) l (search rules)
    go false e = h.open_in.lanes l (search rules)

pub marker_closed : (z : Sizes) (c : Core) (m : ℕ) → frames z c ≡ 0 → Lawful z c → c.marker_open m ≡ false
marker_closed z c m none h = go (nat_lt m z.markers) refl
  where
    go : (b : Bool) → nat_lt m z.markers ≡ b → c.marker_open m ≡ false
    go true e = count-zero c.marker_open z.markers (omega arith) m (search rules)
    go false e = h.open_in.markers m (search rules)

off_is : (b : Bool) → not b ≡ false → b ≡ true
off_is true h = refl
off_is false h = absurd cc

-- A marking begins
pub begun : (z : Sizes) (c : Core) (b : Bool) → (frames z c == 0) ≡ b → c.job ≡ NoJob → c.phase ≡ Idle → Lawful z c → Lawful z (begins_by b c)
begun z c false e at idle h = h
begun z c true e at idle h =
    let none : frames z c ≡ 0 = eqb-true (frames z c) 0 e in
    let quiet = h.quiet (λ m. absurd cc) in
    let work : (c.own_hand ≡ None) × (FoundNone c.own_found) = subst (λ (j : Job). AtWork c.phase j c.own_hand c.own_found) at h.work in
    record {
      beyond = h.beyond;
      scans_own = h.scans_own;
      open_in = h.open_in;
      lanes = h.lanes;
      markers = h.markers;
      held_in = h.held_in;
      stacks_in = h.stacks_in;
      standing = h.standing;
      grey = record { marked_is = λ u f. quiet.places u; doomed_is = λ u f. quiet.places u; scanned_is = λ u wrong. absurd cc };
      black = λ m. record {
        black = λ u k v alive white nowhere lt f. absurd (let dead = h.idle idle u (not_true (c.marked u) white) in cc);
        passed = λ k s i v at_k own other f. absurd (let nothing = h.markers.scan_is k (marker_closed z c k none h) in cc);
        at_cursor = λ k s i rest t v at_k is f g. absurd (let nothing = h.markers.scan_is k (marker_closed z c k none h) in cc);
      };
      roots = λ m p v f. inr (inl (omega arith));
      quiet = λ out. absurd (out refl);
      work = refl;
      looked = tt;
      cells = λ u k v live lt f. alive_now v (h.cells u k v (live_before u live) lt f);
      root_set = λ p v f. let was = h.root_set p v f in (was.0, alive_now v was.1);
      held = λ l u f. alive_now u (h.held l u f);
      found = record {
        markers = λ k s t at_k f. absurd (let nothing = h.markers.scan_is k (marker_closed z c k none h) in cc);
        own = λ u f. alive_now u (h.found.own u f);
      };
      idle = λ wrong. absurd cc;
    }
  where
    alive_now : (v : ℕ) → is_live c.phase c.doomed c.marked v ≡ true → not (c.doomed v) ≡ true
    alive_now v live = live_marking Marking c.doomed c.marked v refl (live_alive c.phase c.doomed c.marked v live)

    live_before : (u : ℕ) → not (c.doomed u) ≡ true → is_live c.phase c.doomed c.marked u ≡ true
    live_before u live =
        let alive : c.doomed u ≡ false = not_true (c.doomed u) live in
        live_marked c.phase c.doomed c.marked u alive (not_false (c.marked u) (λ white. absurd (let dead = h.idle idle u white in cc)))

-- At a commit exchange that succeeds nothing is grey
pub nothing_grey : (z : Sizes) (c : Core) → c.job ≡ Look (z.markers + 1) 0 → frames z c ≡ 0 → c.dirty ≡ false → Lawful z c → (u : ℕ) → c.place u ≡ Nowhere
nothing_grey z c at none clean h u = go (c.place u) refl
  where
    work : (c.phase ≡ Marking) × (c.own_hand ≡ None) × (FoundNone c.own_found)
    work = subst (λ (j : Job). AtWork c.phase j c.own_hand c.own_found) at h.work

    looked : LookedAt (Look (z.markers + 1) 0) c.dirty c.lane_owes c.marker_owes c.place
    looked = subst (λ (j : Job). LookedAt j c.dirty c.lane_owes c.marker_owes c.place) at h.looked

    go : (p : Place) → c.place u ≡ p → c.place u ≡ Nowhere
    go Nowhere e = e
    go (InRow r) e = let in_range = h.standing.rows u r e in
        absurd
        (looked clean (λ l. h.lanes.owes_is l (lane_closed z c l none h)) (λ m. h.markers.owes_is m (marker_closed z c m none h)) u r e
        (inl (omega arith)))
    go (OnStack m) e = absurd (h.stacks_in m u (marker_closed z c m none h) e)
    go (UnderScan m) e = absurd (let s = h.standing.scans u m e in let is = s.1 in let nothing = h.markers.scan_is m (marker_closed z c m none h) in cc)
    go (InHand l) e = absurd (let has_u = h.standing.hands u l e in let nothing = h.lanes.hand_is l (lane_closed z c l none h) in cc)
    go InCollector e = absurd (let has_u = h.standing.own u e in let nothing = work.1 in cc)

-- A marking is committed
pub committed : (z : Sizes) (c : Core) (b : Bool) → ((frames z c == 0) && not c.dirty) ≡ b → c.job ≡ Look (z.markers + 1) 0 → Lawful z c → Lawful z (commits_by b c)
committed z c false e at h = look_stopped z c (z.markers + 1) 0 at h
committed z c true e at h =
    let parts = and_true (frames z c == 0) (not c.dirty) e in
    let none : frames z c ≡ 0 = eqb-true (frames z c) 0 parts.0 in
    let clean : c.dirty ≡ false = not_true c.dirty parts.1 in
    let nowhere = nothing_grey z c at none clean h in
    let work : (c.phase ≡ Marking) × (c.own_hand ≡ None) × (FoundNone c.own_found) = subst (λ (j : Job). AtWork c.phase j c.own_hand c.own_found) at h.work in
    let marked = roots_marked z c work.0 (λ q un. subst (λ (j : Job). Unloaded j q) at un) work.2 h in
    record {
      beyond = h.beyond;
      scans_own = h.scans_own;
      open_in = h.open_in;
      lanes = h.lanes;
      markers = h.markers;
      held_in = h.held_in;
      stacks_in = h.stacks_in;
      standing = h.standing;
      grey = h.grey;
      black = λ m. absurd cc;
      roots = λ m. absurd cc;
      quiet = λ out. record { places = nowhere; clean = clean; lanes = λ l. h.lanes.owes_is l (lane_closed z c l none h); markers = λ m. h.markers.owes_is m (marker_closed z c m none h) };
      work = (work.1, work.2);
      looked = tt;
      cells = λ u k v live lt f.
          let both = and_true (not (c.doomed u)) (c.marked u) live in
          let alive : c.doomed u ≡ false = not_true (c.doomed u) both.0 in
          live_marked Gathering c.doomed c.marked v
          (live_alive c.phase c.doomed c.marked v (h.cells u k v (live_marking c.phase c.doomed c.marked u work.0 alive) lt f))
          ((h.black work.0).black u k v alive both.1 (nowhere u) lt f);
      root_set = λ p v f. let was = h.root_set p v f in (was.0, live_marked Gathering c.doomed c.marked v (live_alive c.phase c.doomed c.marked v was.1) (marked p v f));
      held = λ l u f. absurd (let nothing = h.held_in l u (lane_closed z c l none h) in cc);
      found = record {
        markers = λ k s t at_k f. absurd (let nothing = h.markers.scan_is k (marker_closed z c k none h) in cc);
        own = λ u f. absurd (let nothing = work.2 u in cc);
      };
      idle = λ wrong. absurd cc;
    }

-- A unit that is not marked is doomed
pub dooms : (z : Sizes) (c : Core) (u : ℕ) → c.phase ≡ Gathering → c.marked u ≡ false → Lawful z c → Lawful z (record c { doomed = set_at c.doomed u true })
dooms z c u gathering white h =
    let quiet = h.quiet (λ m. absurd cc) in
    record {
      beyond = λ v far. at_set (λ b. b ≡ true) c.doomed u true v (λ e. refl) (λ n. h.beyond v far);
      scans_own = h.scans_own;
      open_in = h.open_in;
      lanes = h.lanes;
      markers = h.markers;
      held_in = h.held_in;
      stacks_in = h.stacks_in;
      standing = h.standing;
      grey = record { marked_is = h.grey.marked_is; doomed_is = λ v e. quiet.places v; scanned_is = h.grey.scanned_is };
      black = λ m. absurd cc;
      roots = h.roots;
      quiet = h.quiet;
      work = h.work;
      looked = h.looked;
      cells = λ v k t live lt e. to t (h.cells v k t (from v live) lt e);
      root_set = λ p v e. let was = h.root_set p v e in (was.0, to v was.1);
      held = λ l v e. to v (h.held l v e);
      found = record { markers = λ m s t e f. to t (h.found.markers m s t e f); own = λ v e. to v (h.found.own v e) };
      idle = λ wrong. absurd cc;
    }
  where
    outside : c.phase ≡ Marking → ⊥
    outside m = absurd cc

    to : (v : ℕ) → is_live c.phase c.doomed c.marked v ≡ true → is_live c.phase (set_at c.doomed u true) c.marked v ≡ true
    to v live =
        let on : c.marked v ≡ true = live_is_marked c.phase c.doomed c.marked v outside live in
        live_marked c.phase (set_at c.doomed u true) c.marked v
        (set_there c.doomed u true v (λ e. absurd (let same : c.marked v ≡ c.marked u = ap c.marked e in cc))
        ∙ live_alive c.phase c.doomed c.marked v live) on

    from : (v : ℕ) → is_live c.phase (set_at c.doomed u true) c.marked v ≡ true → is_live c.phase c.doomed c.marked v ≡ true
    from v live =
        let on : c.marked v ≡ true = live_is_marked c.phase (set_at c.doomed u true) c.marked v outside live in
        live_marked c.phase c.doomed c.marked v
        (sym (set_there c.doomed u true v (λ e. absurd (let same : c.marked v ≡ c.marked u = ap c.marked e in cc)))
        ∙ live_alive c.phase (set_at c.doomed u true) c.marked v live) on

no_job : (phase : Phase) (job : Job) (hand : Option ℕ) (found : ℕ → Bool) → (phase ≡ Marking → ⊥) → AtWork phase job hand found → AtWork Idle job hand found
no_job phase NoJob hand found out h = h
no_job phase (Roots p) hand found out h = absurd (out h)
no_job phase (Look r w) hand found out h = absurd (out h.0)

-- All units that are not marked are doomed: the collection ends
pub settles : (z : Sizes) (c : Core) → c.phase ≡ Gathering → ((u : ℕ) → c.marked u ≡ false → c.doomed u ≡ true) → Lawful z c → Lawful z (record c { phase = Idle })
settles z c gathering all h = record {
  beyond = h.beyond;
  scans_own = h.scans_own;
  open_in = h.open_in;
  lanes = h.lanes;
  markers = h.markers;
  held_in = h.held_in;
  stacks_in = h.stacks_in;
  standing = h.standing;
  grey = h.grey;
  black = λ m. absurd cc;
  roots = λ m. absurd cc;
  quiet = λ out. h.quiet (λ m. absurd cc);
  work = no_job c.phase c.job c.own_hand c.own_found (λ m. absurd cc) h.work;
  looked = h.looked;
  cells = subst (λ (p : Phase). CellsLive p c.doomed c.marked c.cells c.cell) gathering h.cells;
  root_set = subst (λ (p : Phase). RootsLive z p c.doomed c.marked c.root) gathering h.root_set;
  held = subst (λ (p : Phase). HeldLive p c.doomed c.marked c.holds) gathering h.held;
  found = let was : FoundLive Gathering c.doomed c.marked c.scan c.own_found =
      subst (λ (p : Phase). FoundLive p c.doomed c.marked c.scan c.own_found) gathering h.found in
      record { markers = was.markers; own = was.own };
  idle = λ e. all;
}
