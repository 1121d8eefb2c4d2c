-- A unit is marked.
use Rattle.std.proofs.Common.{◌≡◌, ℕ, ◌≤◌, refl, sym, ap, ◌∙◌, inl, inr, Bool, cond, true, false, List, ◌⊎◌, Option, Some, None}
use Rattle.mark_core.specs.Changes.{set_at}
use Rattle.mark_core.specs.Machine.{Phase, Marking, Place, Nowhere, InRow, OnStack, UnderScan, InHand, InCollector, Scan, Job, NoJob, Roots, Look, Sizes, Core}
use Rattle.mark_core.specs.Steps.{IsFree, marks}
use Rattle.mark_core.specs.Lawful.{Lawful, LanesRest, StacksInFrames, Standing, AreGrey, AreBlack, RootsFollowed, Unloaded, AtWork, LookedAt, CellsLive, FoundLive}
use Rattle.mark_core.proofs.Tools.{at_set, set_here, set_there, apart, some_same, Grows, grows_one, live_grows, live_alive, live_marking}

-- Each clause that reads which units are marked, with more of them marked

roots_grow : (m n : ℕ → Bool) → Grows m n → (root : ℕ → Option ℕ) (job : Job) (found : ℕ → Bool) → RootsFollowed m root job found → RootsFollowed n root job found
roots_grow m n grows root job found h p v e = go (h p v e)
  where
    go : (m v ≡ true) ⊎ (Unloaded job p ⊎ (found v ≡ true)) → (n v ≡ true) ⊎ (Unloaded job p ⊎ (found v ≡ true))
    go (inl t) = inl (grows v t)
    go (inr r) = inr r

cells_grow : (p : Phase) (d m n : ℕ → Bool) → p ≡ Marking → Grows m n → (cells : ℕ → List ℕ) (cell : ℕ → Option ℕ) → CellsLive p d m cells cell → CellsLive p d n cells cell
cells_grow p d m n marking grows cells cell h u k v live lt e = live_grows p d m n grows v (h u k v (live_marking p d m u marking (live_alive p d n u live)) lt e)

found_grow : (p : Phase) (d m n : ℕ → Bool) → Grows m n → (scan : ℕ → Option Scan) (found : ℕ → Bool) → FoundLive p d m scan found → FoundLive p d n scan found
found_grow p d m n grows scan found h = record { markers = λ k s t e f. live_grows p d m n grows t (h.markers k s t e f); own = λ u e. live_grows p d m n grows u (h.own u e) }

-- a white unit gets a colour and a place
grey_shaded : (d m s : ℕ → Bool) (place : ℕ → Place) (u : ℕ) (p : Place) → m u ≡ false → d u ≡ false → AreGrey d m s place → AreGrey d (set_at m u true) s (set_at place u p)
grey_shaded d m s place u p white alive h = record {
  marked_is = λ v off. at_set (λ x. x ≡ Nowhere) place u p v (λ e. absurd (let now = set_here m u true v e in cc)) (λ n. h.marked_is v (sym (set_there m u true v n) ∙ off));
  doomed_is = λ v dead. at_set (λ x. x ≡ Nowhere) place u p v (λ e. absurd (let there : d v ≡ d u = ap d e in cc)) (λ n. h.doomed_is v dead);
  scanned_is = λ v done. let was = h.scanned_is v done in (
    at_set (λ x. x ≡ Nowhere) place u p v (λ e. absurd (let there : m v ≡ m u = ap m e in let marked = was.1 in cc)) (λ n. was.0),
    grows_one m u v was.1,
  );
}

black_shaded : (d m : ℕ → Bool) (place : ℕ → Place) (cells : ℕ → List ℕ) (cell : ℕ → Option ℕ) (scan : ℕ → Option Scan) (u : ℕ) (p : Place)
    → (p ≡ Nowhere → ⊥) → AreBlack d m place cells cell scan → AreBlack d (set_at m u true) (set_at place u p) cells cell scan
black_shaded d m place cells cell scan u p stands h = record {
  black = λ v k t alive marked nowhere lt e.
      at_set (λ x. x ≡ Nowhere → set_at m u true v ≡ true → set_at m u true t ≡ true) place u p v
      (λ same wrong. absurd (stands wrong))
      (λ n at_none on. grows_one m u t (h.black v k t alive (sym (set_there m u true v n) ∙ on) at_none lt e))
      nowhere marked;
  passed = λ k s i v e own other f. grows_one m u v (h.passed k s i v e own other f);
  at_cursor = λ k s i rest t v e is f g. go v t (h.at_cursor k s i rest t v e is f g);
}
  where
    go : (v t : ℕ) → (m v ≡ true) ⊎ (v ≡ t) → (set_at m u true v ≡ true) ⊎ (v ≡ t)
    go v t (inl e) = inl (grows_one m u v e)
    go v t (inr e) = inr e

-- with fewer bits in the rows
pub looked_fewer : (job : Job) (d : Bool) (lo mo : ℕ → Bool) (place next : ℕ → Place) → ((u r : ℕ) → next u ≡ InRow r → place u ≡ InRow r) → LookedAt job d lo mo place → LookedAt job d lo mo next
looked_fewer NoJob d lo mo place next fewer h = tt
looked_fewer (Roots p) d lo mo place next fewer h = tt
looked_fewer (Look row word) d lo mo place next fewer h = λ clean lanes markers u r e before. h clean lanes markers u r (fewer u r e) before

-- A white unit of the world is marked and stands somewhere, which is no row
whitened : (z : Sizes) (c : Core) (u : ℕ) (p : Place) (hand : ℕ → Option ℕ) (own : Option ℕ) → c.phase ≡ Marking → c.marked u ≡ false
    → c.doomed u ≡ false → (p ≡ Nowhere → ⊥) → ((r : ℕ) → p ≡ InRow r → ⊥)
    → LanesRest c.lane_open hand c.lane_owes → StacksInFrames c.marker_open (set_at c.place u p) → Standing z (set_at c.place u p) hand own c.scan → AtWork c.phase c.job own c.own_found
    → Lawful z c → Lawful z (record c { marked = set_at c.marked u true; place = set_at c.place u p; hand = hand; own_hand = own })
whitened z c u p hand own marking white alive stands no_row lanes stacks standing work h =
    let grows = grows_one c.marked u in
    record {
      beyond = h.beyond;
      scans_own = h.scans_own;
      open_in = h.open_in;
      lanes = lanes;
      markers = h.markers;
      held_in = h.held_in;
      stacks_in = stacks;
      standing = standing;
      grey = grey_shaded c.doomed c.marked c.scanned c.place u p white alive h.grey;
      black = λ m. black_shaded c.doomed c.marked c.place c.cells c.cell c.scan u p stands (h.black m);
      roots = λ m. roots_grow c.marked (set_at c.marked u true) grows c.root c.job c.own_found (h.roots m);
      quiet = λ out. absurd (out marking);
      work = work;
      looked =
          looked_fewer c.job c.dirty c.lane_owes c.marker_owes c.place (set_at c.place u p)
          (λ v r. at_set (λ x. x ≡ InRow r → c.place v ≡ InRow r) c.place u p v (λ e wrong. absurd (no_row r wrong)) (λ n e. e)) h.looked;
      cells = cells_grow c.phase c.doomed c.marked (set_at c.marked u true) marking grows c.cells c.cell h.cells;
      root_set = λ q v e. let was = h.root_set q v e in (was.0, live_grows c.phase c.doomed c.marked (set_at c.marked u true) grows v was.1);
      held = λ l v e. live_grows c.phase c.doomed c.marked (set_at c.marked u true) grows v (h.held l v e);
      found = found_grow c.phase c.doomed c.marked (set_at c.marked u true) grows c.scan c.own_found h.found;
      idle = λ wrong. absurd cc;
    }

-- to mark a marked unit again changes nothing
marked_again : (z : Sizes) (c : Core) (u : ℕ) → c.phase ≡ Marking → c.marked u ≡ true → Lawful z c → Lawful z (record c { marked = set_at c.marked u true })
marked_again z c u marking on h =
    let grows = grows_one c.marked u in
    record {
      beyond = h.beyond;
      scans_own = h.scans_own;
      open_in = h.open_in;
      lanes = h.lanes;
      markers = h.markers;
      held_in = h.held_in;
      stacks_in = h.stacks_in;
      standing = h.standing;
      grey = record { marked_is = λ v off. h.grey.marked_is v (back_off v off); doomed_is = h.grey.doomed_is; scanned_is = λ v e. let was = h.grey.scanned_is v e in (was.0, grows v was.1) };
      black = λ m. record {
        black = λ v k t alive marked nowhere lt e. grows t ((h.black m).black v k t alive (back v marked) nowhere lt e);
        passed = λ k s i v e own other f. grows v ((h.black m).passed k s i v e own other f);
        at_cursor = λ k s i rest t v e is f g. go v t ((h.black m).at_cursor k s i rest t v e is f g);
      };
      roots = λ m. roots_grow c.marked (set_at c.marked u true) grows c.root c.job c.own_found (h.roots m);
      quiet = h.quiet;
      work = h.work;
      looked = h.looked;
      cells = cells_grow c.phase c.doomed c.marked (set_at c.marked u true) marking grows c.cells c.cell h.cells;
      root_set = λ q v e. let was = h.root_set q v e in (was.0, live_grows c.phase c.doomed c.marked (set_at c.marked u true) grows v was.1);
      held = λ l v e. live_grows c.phase c.doomed c.marked (set_at c.marked u true) grows v (h.held l v e);
      found = found_grow c.phase c.doomed c.marked (set_at c.marked u true) grows c.scan c.own_found h.found;
      idle = λ wrong. absurd cc;
    }
  where
    back : (v : ℕ) → set_at c.marked u true v ≡ true → c.marked v ≡ true
    back v = at_set (λ b. b ≡ true → c.marked v ≡ true) c.marked u true v (λ e t. ap c.marked e ∙ on) (λ n t. t)

    back_off : (v : ℕ) → set_at c.marked u true v ≡ false → c.marked v ≡ false
    back_off v = at_set (λ b. b ≡ false → c.marked v ≡ false) c.marked u true v (λ e t. absurd cc) (λ n t. t)

    go : (v t : ℕ) → (c.marked v ≡ true) ⊎ (v ≡ t) → (set_at c.marked u true v ≡ true) ⊎ (v ≡ t)
    go v t (inl e) = inl (grows v e)
      where
        grows : Grows c.marked (set_at c.marked u true)
        grows = grows_one c.marked u
    go v t (inr e) = inr e

-- a place that the unit did not have before it was marked is its own
pub in_hand_of : (l k : ℕ) → InHand l ≡ InHand k → k ≡ l
in_hand_of l k e = cc

pub on_stack_of : (l k : ℕ) → OnStack l ≡ OnStack k → k ≡ l
on_stack_of l k e = cc

-- a lane shades
pub lane_shades : (z : Sizes) (c : Core) (l u : ℕ) → IsFree c l → c.phase ≡ Marking → c.doomed u ≡ false → Lawful z c
    → Lawful z (record (marks c u (InHand l)) { hand = cond (c.marked u) c.hand (set_at c.hand l (Some u)) })
lane_shades z c l u free marking alive h = go (c.marked u) refl
  where
    go : (b : Bool) → c.marked u ≡ b → Lawful z (record c { marked = set_at c.marked u true; place = cond b c.place (set_at c.place u (InHand l)); hand = cond b c.hand (set_at c.hand l (Some u)) })
    go true on = marked_again z c u marking on h
    go false white =
        whitened z c u (InHand l) (set_at c.hand l (Some u)) c.own_hand marking white alive (λ e. absurd cc) (λ r e. absurd cc)
        (record { hand_is = λ k off. at_set (λ x. x ≡ None) c.hand l (Some u) k (λ e. absurd (apart c.lane_open l k free.opened off e)) (λ n. h.lanes.hand_is k off); owes_is = h.lanes.owes_is })
        (λ m v off. at_set (λ x. x ≡ OnStack m → ⊥) c.place u (InHand l) v (λ e wrong. absurd cc) (λ n. h.stacks_in m v off))
        (record {
          rows = λ v r. at_set (λ x. x ≡ InRow r → r ≤ z.markers) c.place u (InHand l) v (λ e wrong. absurd cc) (λ n. h.standing.rows v r);
          hands = λ v k. at_set (λ x. x ≡ InHand k → set_at c.hand l (Some u) k ≡ Some v) c.place u (InHand l) v
              (λ e own. set_here c.hand l (Some u) k (in_hand_of l k own) ∙ ap (λ (x : ℕ). Some x) (sym e))
              (λ n there.
              at_set (λ x. x ≡ Some v) c.hand l (Some u) k
              (λ e.
              absurd (let has_v = h.standing.hands v k there in let same : c.hand k ≡ c.hand l = ap c.hand e in let empty = free.hand in cc))
              (λ other. h.standing.hands v k there));
          own = λ v. at_set (λ x. x ≡ InCollector → c.own_hand ≡ Some v) c.place u (InHand l) v (λ e wrong. absurd cc) (λ n. h.standing.own v);
          in_hand = λ k v. at_set (λ x. x ≡ Some v → set_at c.place u (InHand l) v ≡ InHand k) c.hand l (Some u) k
              (λ e mine. set_here c.place u (InHand l) v (sym (some_same u v mine)) ∙ ap InHand (sym e))
              (λ n other.
              at_set (λ x. x ≡ InHand k) c.place u (InHand l) v
              (λ e.
              absurd
              (let was = h.standing.in_hand k v other in
              let none = h.grey.marked_is u white in
              let at : c.place v ≡ c.place u = ap c.place e in
              cc)) (λ o. h.standing.in_hand k v other));
          in_own =
              λ v other.
              at_set (λ x. x ≡ InCollector) c.place u (InHand l) v
              (λ e.
              absurd
              (let was = h.standing.in_own v other in
              let none = h.grey.marked_is u white in
              let at : c.place v ≡ c.place u = ap c.place e in
              cc)) (λ o. h.standing.in_own v other);
          scans = λ v m. at_set (λ x. x ≡ UnderScan m → (s : Scan) × (c.scan m ≡ Some s) × (s.unit ≡ v)) c.place u (InHand l) v (λ e wrong. absurd cc) (λ n. h.standing.scans v m);
          under =
              λ m s e.
              at_set (λ x. x ≡ UnderScan m) c.place u (InHand l) s.unit
              (λ same.
              absurd
              (let was = h.standing.under m s e in
              let none = h.grey.marked_is u white in
              let at : c.place s.unit ≡ c.place u = ap c.place same in
              cc)) (λ n. h.standing.under m s e);
        })
        h.work h

-- a marker shades
pub marker_shades : (z : Sizes) (c : Core) (m u : ℕ) → c.marker_open m ≡ true → c.phase ≡ Marking → c.doomed u ≡ false → Lawful z c → Lawful z (marks c u (OnStack m))
marker_shades z c m u opened marking alive h = go (c.marked u) refl
  where
    go : (b : Bool) → c.marked u ≡ b → Lawful z (record c { marked = set_at c.marked u true; place = cond b c.place (set_at c.place u (OnStack m)) })
    go true on = marked_again z c u marking on h
    go false white =
        whitened z c u (OnStack m) c.hand c.own_hand marking white alive (λ e. absurd cc) (λ r e. absurd cc)
        h.lanes
        (λ k v off. at_set (λ x. x ≡ OnStack k → ⊥) c.place u (OnStack m) v (λ e on. apart c.marker_open m k opened off (on_stack_of m k on)) (λ n. h.stacks_in k v off))
        (record {
          rows = λ v r. at_set (λ x. x ≡ InRow r → r ≤ z.markers) c.place u (OnStack m) v (λ e wrong. absurd cc) (λ n. h.standing.rows v r);
          hands = λ v k. at_set (λ x. x ≡ InHand k → c.hand k ≡ Some v) c.place u (OnStack m) v (λ e wrong. absurd cc) (λ n. h.standing.hands v k);
          own = λ v. at_set (λ x. x ≡ InCollector → c.own_hand ≡ Some v) c.place u (OnStack m) v (λ e wrong. absurd cc) (λ n. h.standing.own v);
          in_hand =
              λ k v other.
              at_set (λ x. x ≡ InHand k) c.place u (OnStack m) v
              (λ e.
              absurd
              (let was = h.standing.in_hand k v other in
              let none = h.grey.marked_is u white in
              let at : c.place v ≡ c.place u = ap c.place e in
              cc)) (λ o. h.standing.in_hand k v other);
          in_own =
              λ v other.
              at_set (λ x. x ≡ InCollector) c.place u (OnStack m) v
              (λ e.
              absurd
              (let was = h.standing.in_own v other in
              let none = h.grey.marked_is u white in
              let at : c.place v ≡ c.place u = ap c.place e in
              cc)) (λ o. h.standing.in_own v other);
          scans = λ v k. at_set (λ x. x ≡ UnderScan k → (s : Scan) × (c.scan k ≡ Some s) × (s.unit ≡ v)) c.place u (OnStack m) v (λ e wrong. absurd cc) (λ n. h.standing.scans v k);
          under =
              λ k s e.
              at_set (λ x. x ≡ UnderScan k) c.place u (OnStack m) s.unit
              (λ same.
              absurd
              (let was = h.standing.under k s e in
              let none = h.grey.marked_is u white in
              let at : c.place s.unit ≡ c.place u = ap c.place same in
              cc)) (λ n. h.standing.under k s e);
        })
        h.work h

work_at_roots : (phase : Phase) (job : Job) (p : ℕ) (hand other : Option ℕ) (found more : ℕ → Bool) → job ≡ Roots p → AtWork phase job hand found → AtWork phase job other more
work_at_roots phase NoJob p hand other found more e h = absurd cc
work_at_roots phase (Roots q) p hand other found more e h = h
work_at_roots phase (Look r w) p hand other found more e h = absurd cc

-- the collector shades
pub collector_shades : (z : Sizes) (c : Core) (u p : ℕ) → c.job ≡ Roots p → c.own_hand ≡ None → c.phase ≡ Marking → c.doomed u ≡ false → Lawful z c
    → Lawful z (record (marks c u InCollector) { own_hand = cond (c.marked u) c.own_hand (Some u) })
collector_shades z c u p at_roots empty marking alive h = go (c.marked u) refl
  where
    go : (b : Bool) → c.marked u ≡ b → Lawful z (record c { marked = set_at c.marked u true; place = cond b c.place (set_at c.place u InCollector); own_hand = cond b c.own_hand (Some u) })
    go true on = marked_again z c u marking on h
    go false white =
        whitened z c u InCollector c.hand (Some u) marking white alive (λ e. absurd cc) (λ r e. absurd cc)
        h.lanes
        (λ k v off. at_set (λ x. x ≡ OnStack k → ⊥) c.place u InCollector v (λ e on. absurd cc) (λ n. h.stacks_in k v off))
        (record {
          rows = λ v r. at_set (λ x. x ≡ InRow r → r ≤ z.markers) c.place u InCollector v (λ e wrong. absurd cc) (λ n. h.standing.rows v r);
          hands = λ v k. at_set (λ x. x ≡ InHand k → c.hand k ≡ Some v) c.place u InCollector v (λ e wrong. absurd cc) (λ n. h.standing.hands v k);
          own = λ v. at_set (λ x. x ≡ InCollector → Some u ≡ Some v) c.place u InCollector v (λ e here. ap (λ (x : ℕ). Some x) (sym e)) (λ n there. absurd (let has_v = h.standing.own v there in cc));
          in_hand =
              λ k v other.
              at_set (λ x. x ≡ InHand k) c.place u InCollector v
              (λ e.
              absurd
              (let was = h.standing.in_hand k v other in
              let none = h.grey.marked_is u white in
              let at : c.place v ≡ c.place u = ap c.place e in
              cc)) (λ o. h.standing.in_hand k v other);
          in_own = λ v mine. set_here c.place u InCollector v (sym (some_same u v mine));
          scans = λ v k. at_set (λ x. x ≡ UnderScan k → (s : Scan) × (c.scan k ≡ Some s) × (s.unit ≡ v)) c.place u InCollector v (λ e wrong. absurd cc) (λ n. h.standing.scans v k);
          under =
              λ k s e.
              at_set (λ x. x ≡ UnderScan k) c.place u InCollector s.unit
              (λ same.
              absurd
              (let was = h.standing.under k s e in
              let none = h.grey.marked_is u white in
              let at : c.place s.unit ≡ c.place u = ap c.place same in
              cc)) (λ n. h.standing.under k s e);
        })
        (work_at_roots c.phase c.job p c.own_hand (Some u) c.own_found c.own_found at_roots h.work) h
