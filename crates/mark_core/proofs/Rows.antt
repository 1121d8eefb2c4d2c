-- Units go into rows and out of them.
use Rattle.std.proofs.Common.{◌≡◌, ℕ, ◌≤◌, refl, sym, ap, ◌∙◌, arith, Bool, true, false, List, Option, Some, None}
use Rattle.mark_core.specs.Changes.{set_at}
use Rattle.mark_core.specs.Machine.{Phase, Place, Nowhere, InRow, OnStack, UnderScan, InHand, InCollector, Scan, Job, NoJob, Roots, Look, Sizes, Core}
use Rattle.mark_core.specs.Steps.{takes}
use Rattle.mark_core.specs.Lawful.{Lawful, AreGrey, AreBlack, AtWork, LookedAt}
use Rattle.mark_core.proofs.Tools.{at_set, at_takes, set_here, apart, some_same}
use Rattle.mark_core.proofs.Seats.{looked_lane_owes, looked_marker_owes}
use Rattle.mark_core.proofs.Shades.{looked_fewer, in_hand_of, on_stack_of}

-- the same units are grey
pub record SameGrey (place next : ℕ → Place) : Type 0 where
  pub to : (u : ℕ) → place u ≡ Nowhere → next u ≡ Nowhere
  pub from : (u : ℕ) → next u ≡ Nowhere → place u ≡ Nowhere

pub grey_regrouped : (d m s : ℕ → Bool) (place next : ℕ → Place) → SameGrey place next → AreGrey d m s place → AreGrey d m s next
grey_regrouped d m s place next same h =
    record {
      marked_is = λ u e. same.to u (h.marked_is u e);
      doomed_is = λ u e. same.to u (h.doomed_is u e);
      scanned_is = λ u e. let was = h.scanned_is u e in
          (same.to u was.0, was.1);
    }

pub black_regrouped : (d m : ℕ → Bool) (place next : ℕ → Place) (cells : ℕ → List ℕ) (cell : ℕ → Option ℕ) (scan : ℕ → Option Scan)
    → SameGrey place next → AreBlack d m place cells cell scan → AreBlack d m next cells cell scan
black_regrouped d m place next cells cell scan same h =
    record {
      black = λ u k v alive marked nowhere lt e. h.black u k v alive marked (same.from u nowhere) lt e;
      passed = h.passed;
      at_cursor = h.at_cursor;
    }

-- a grey unit goes to another place
pub moved : (place : ℕ → Place) (u : ℕ) (p : Place) → (place u ≡ Nowhere → ⊥) → (p ≡ Nowhere → ⊥) → SameGrey place (set_at place u p)
moved place u p was is = record {
  to = λ v e. at_set (λ x. x ≡ Nowhere) place u p v (λ same. absurd (was (ap place (sym same) ∙ e))) (λ n. e);
  from = λ v. at_set (λ x. x ≡ Nowhere → place v ≡ Nowhere) place u p v (λ same wrong. absurd (is wrong)) (λ n e. e);
}

in_row_of : (r k : ℕ) → InRow r ≡ InRow k → k ≡ r
in_row_of r k e = cc

row_range : (r k n : ℕ) → r ≤ n → InRow r ≡ InRow k → k ≤ n
row_range r k n le e = let same = in_row_of r k e in omega arith

-- a lane puts what it has in hand into a row
pub lane_adds : (z : Sizes) (c : Core) (l r u : ℕ) → c.place u ≡ InHand l → r ≤ z.markers → Lawful z c
    → Lawful z (record c { place = set_at c.place u (InRow r); hand = set_at c.hand l None; lane_owes = set_at c.lane_owes l true })
lane_adds z c l r u at le h =
    let same = moved c.place u (InRow r) (λ e. absurd cc) (λ e. absurd cc) in
    let has_u = h.standing.hands u l at in
    record {
      beyond = h.beyond;
      scans_own = h.scans_own;
      open_in = h.open_in;
      lanes = record {
        hand_is = λ k off. at_set (λ x. x ≡ None) c.hand l None k (λ e. refl) (λ n. h.lanes.hand_is k off);
        owes_is =
            λ k off.
            at_set (λ x. x ≡ false) c.lane_owes l true k
            (λ e. absurd (let empty = h.lanes.hand_is k off in let there : c.hand k ≡ c.hand l = ap c.hand e in cc)) (λ n. h.lanes.owes_is k off);
      };
      markers = h.markers;
      held_in = h.held_in;
      stacks_in = λ m v off. at_set (λ x. x ≡ OnStack m → ⊥) c.place u (InRow r) v (λ e on. absurd cc) (λ n. h.stacks_in m v off);
      standing = record {
        rows = λ v k. at_set (λ x. x ≡ InRow k → k ≤ z.markers) c.place u (InRow r) v (λ e here. row_range r k z.markers le here) (λ n. h.standing.rows v k);
        hands =
            λ v k.
            at_set (λ x. x ≡ InHand k → set_at c.hand l None k ≡ Some v) c.place u (InRow r) v (λ e wrong. absurd cc)
            (λ n there.
            at_set (λ x. x ≡ Some v) c.hand l None k
            (λ e. absurd (n (some_same v u (sym (h.standing.hands v k there) ∙ (ap c.hand e ∙ has_u)))))
            (λ other. h.standing.hands v k there));
        own = λ v. at_set (λ x. x ≡ InCollector → c.own_hand ≡ Some v) c.place u (InRow r) v (λ e wrong. absurd cc) (λ n. h.standing.own v);
        in_hand = λ k v. at_set (λ x. x ≡ Some v → set_at c.place u (InRow r) v ≡ InHand k) c.hand l None k (λ e wrong. absurd cc)
            (λ n other.
            at_set (λ x. x ≡ InHand k) c.place u (InRow r) v
            (λ e. absurd (n (in_hand_of l k (sym at ∙ (ap c.place (sym e) ∙ h.standing.in_hand k v other)))))
            (λ o. h.standing.in_hand k v other));
        in_own =
            λ v other.
            at_set (λ x. x ≡ InCollector) c.place u (InRow r) v
            (λ e. absurd (let was = h.standing.in_own v other in let there : c.place v ≡ c.place u = ap c.place e in cc))
            (λ o. h.standing.in_own v other);
        scans = λ v k. at_set (λ x. x ≡ UnderScan k → (s : Scan) × (c.scan k ≡ Some s) × (s.unit ≡ v)) c.place u (InRow r) v (λ e wrong. absurd cc) (λ n. h.standing.scans v k);
        under =
            λ k s e.
            at_set (λ x. x ≡ UnderScan k) c.place u (InRow r) s.unit
            (λ same_unit. absurd (let was = h.standing.under k s e in let there : c.place s.unit ≡ c.place u = ap c.place same_unit in cc))
            (λ n. h.standing.under k s e);
      };
      grey = grey_regrouped c.doomed c.marked c.scanned c.place (set_at c.place u (InRow r)) same h.grey;
      black = λ m. black_regrouped c.doomed c.marked c.place (set_at c.place u (InRow r)) c.cells c.cell c.scan same (h.black m);
      roots = h.roots;
      quiet = λ out. absurd (let none = (h.quiet out).places u in cc);
      work = h.work;
      looked = looked_lane_owes c.job c.dirty (set_at c.lane_owes l true) c.marker_owes (set_at c.place u (InRow r)) l (set_here c.lane_owes l true l refl);
      cells = h.cells;
      root_set = h.root_set;
      held = h.held;
      found = h.found;
      idle = h.idle;
    }

-- a marker puts a unit of its stack into a row
pub marker_adds : (z : Sizes) (c : Core) (m r u : ℕ) → c.place u ≡ OnStack m → r ≤ z.markers → Lawful z c
    → Lawful z (record c { place = set_at c.place u (InRow r); marker_owes = set_at c.marker_owes m true })
marker_adds z c m r u at le h =
    let same = moved c.place u (InRow r) (λ e. absurd cc) (λ e. absurd cc) in
    record {
      beyond = h.beyond;
      scans_own = h.scans_own;
      open_in = h.open_in;
      lanes = h.lanes;
      markers = record {
        scan_is = h.markers.scan_is;
        owes_is = λ k off. at_set (λ x. x ≡ false) c.marker_owes m true k (λ e. absurd (h.stacks_in k u off (at ∙ ap OnStack (sym e)))) (λ n. h.markers.owes_is k off);
      };
      held_in = h.held_in;
      stacks_in = λ k v off. at_set (λ x. x ≡ OnStack k → ⊥) c.place u (InRow r) v (λ e on. absurd cc) (λ n. h.stacks_in k v off);
      standing = record {
        rows = λ v k. at_set (λ x. x ≡ InRow k → k ≤ z.markers) c.place u (InRow r) v (λ e here. row_range r k z.markers le here) (λ n. h.standing.rows v k);
        hands = λ v k. at_set (λ x. x ≡ InHand k → c.hand k ≡ Some v) c.place u (InRow r) v (λ e wrong. absurd cc) (λ n. h.standing.hands v k);
        own = λ v. at_set (λ x. x ≡ InCollector → c.own_hand ≡ Some v) c.place u (InRow r) v (λ e wrong. absurd cc) (λ n. h.standing.own v);
        in_hand =
            λ k v other.
            at_set (λ x. x ≡ InHand k) c.place u (InRow r) v
            (λ e. absurd (let was = h.standing.in_hand k v other in let there : c.place v ≡ c.place u = ap c.place e in cc))
            (λ o. h.standing.in_hand k v other);
        in_own =
            λ v other.
            at_set (λ x. x ≡ InCollector) c.place u (InRow r) v
            (λ e. absurd (let was = h.standing.in_own v other in let there : c.place v ≡ c.place u = ap c.place e in cc))
            (λ o. h.standing.in_own v other);
        scans = λ v k. at_set (λ x. x ≡ UnderScan k → (s : Scan) × (c.scan k ≡ Some s) × (s.unit ≡ v)) c.place u (InRow r) v (λ e wrong. absurd cc) (λ n. h.standing.scans v k);
        under =
            λ k s e.
            at_set (λ x. x ≡ UnderScan k) c.place u (InRow r) s.unit
            (λ same_unit. absurd (let was = h.standing.under k s e in let there : c.place s.unit ≡ c.place u = ap c.place same_unit in cc))
            (λ n. h.standing.under k s e);
      };
      grey = grey_regrouped c.doomed c.marked c.scanned c.place (set_at c.place u (InRow r)) same h.grey;
      black = λ mm. black_regrouped c.doomed c.marked c.place (set_at c.place u (InRow r)) c.cells c.cell c.scan same (h.black mm);
      roots = h.roots;
      quiet = λ out. absurd (let none = (h.quiet out).places u in cc);
      work = h.work;
      looked = looked_marker_owes c.job c.dirty c.lane_owes (set_at c.marker_owes m true) (set_at c.place u (InRow r)) m (set_here c.marker_owes m true m refl);
      cells = h.cells;
      root_set = h.root_set;
      held = h.held;
      found = h.found;
      idle = h.idle;
    }

-- what the collector has in hand it has while it goes over the roots
work_in_hand : (phase : Phase) (job : Job) (hand : Option ℕ) (found : ℕ → Bool) (u : ℕ) → hand ≡ Some u → AtWork phase job hand found → AtWork phase job None found
work_in_hand phase NoJob hand found u e h = absurd (let none = h.0 in cc)
work_in_hand phase (Roots p) hand found u e h = h
work_in_hand phase (Look r w) hand found u e h = absurd (let none = h.1 in cc)

looked_in_hand : (phase : Phase) (job : Job) (hand : Option ℕ) (found : ℕ → Bool) (u : ℕ) (d : Bool) (lo mo : ℕ → Bool) (place : ℕ → Place)
    → hand ≡ Some u → AtWork phase job hand found → LookedAt job d lo mo place
looked_in_hand phase NoJob hand found u d lo mo place e h = tt
looked_in_hand phase (Roots p) hand found u d lo mo place e h = tt
looked_in_hand phase (Look r w) hand found u d lo mo place e h = absurd (let none = h.1 in cc)

pub collector_adds : (z : Sizes) (c : Core) (r u : ℕ) → c.place u ≡ InCollector → r ≤ z.markers → Lawful z c → Lawful z (record c { place = set_at c.place u (InRow r); own_hand = None })
collector_adds z c r u at le h =
    let same = moved c.place u (InRow r) (λ e. absurd cc) (λ e. absurd cc) in
    let has_u = h.standing.own u at in
    record {
      beyond = h.beyond;
      scans_own = h.scans_own;
      open_in = h.open_in;
      lanes = h.lanes;
      markers = h.markers;
      held_in = h.held_in;
      stacks_in = λ m v off. at_set (λ x. x ≡ OnStack m → ⊥) c.place u (InRow r) v (λ e on. absurd cc) (λ n. h.stacks_in m v off);
      standing = record {
        rows = λ v k. at_set (λ x. x ≡ InRow k → k ≤ z.markers) c.place u (InRow r) v (λ e here. row_range r k z.markers le here) (λ n. h.standing.rows v k);
        hands = λ v k. at_set (λ x. x ≡ InHand k → c.hand k ≡ Some v) c.place u (InRow r) v (λ e wrong. absurd cc) (λ n. h.standing.hands v k);
        own = λ v. at_set (λ x. x ≡ InCollector → None ≡ Some v) c.place u (InRow r) v (λ e wrong. absurd cc) (λ n there. absurd (n (some_same v u (sym (h.standing.own v there) ∙ has_u))));
        in_hand =
            λ k v other.
            at_set (λ x. x ≡ InHand k) c.place u (InRow r) v
            (λ e. absurd (let was = h.standing.in_hand k v other in let there : c.place v ≡ c.place u = ap c.place e in cc))
            (λ o. h.standing.in_hand k v other);
        in_own = λ v wrong. absurd cc;
        scans = λ v k. at_set (λ x. x ≡ UnderScan k → (s : Scan) × (c.scan k ≡ Some s) × (s.unit ≡ v)) c.place u (InRow r) v (λ e wrong. absurd cc) (λ n. h.standing.scans v k);
        under =
            λ k s e.
            at_set (λ x. x ≡ UnderScan k) c.place u (InRow r) s.unit
            (λ same_unit. absurd (let was = h.standing.under k s e in let there : c.place s.unit ≡ c.place u = ap c.place same_unit in cc))
            (λ n. h.standing.under k s e);
      };
      grey = grey_regrouped c.doomed c.marked c.scanned c.place (set_at c.place u (InRow r)) same h.grey;
      black = λ m. black_regrouped c.doomed c.marked c.place (set_at c.place u (InRow r)) c.cells c.cell c.scan same (h.black m);
      roots = h.roots;
      quiet = λ out. absurd (let none = (h.quiet out).places u in cc);
      work = work_in_hand c.phase c.job c.own_hand c.own_found u has_u h.work;
      looked = looked_in_hand c.phase c.job c.own_hand c.own_found u c.dirty c.lane_owes c.marker_owes (set_at c.place u (InRow r)) has_u h.work;
      cells = h.cells;
      root_set = h.root_set;
      held = h.held;
      found = h.found;
      idle = h.idle;
    }

taken_grey : (m r w : ℕ) (place : ℕ → Place) → SameGrey place (takes m r w place)
taken_grey m r w place = record {
  to = λ v e. at_takes (λ x. x ≡ Nowhere) m r w place v (λ at. absurd cc) e;
  from = λ v. at_takes (λ x. x ≡ Nowhere → place v ≡ Nowhere) m r w place v (λ at wrong. absurd cc) (λ e. e);
}

pub row_taken : (z : Sizes) (c : Core) (m r w : ℕ) → c.marker_open m ≡ true → Lawful z c → Lawful z (record c { place = takes m r w c.place })
row_taken z c m r w opened h =
    let same = taken_grey m r w c.place in
    record {
      beyond = h.beyond;
      scans_own = h.scans_own;
      open_in = h.open_in;
      lanes = h.lanes;
      markers = h.markers;
      held_in = h.held_in;
      stacks_in = λ k v off. at_takes (λ x. x ≡ OnStack k → ⊥) m r w c.place v (λ at on. apart c.marker_open m k opened off (on_stack_of m k on)) (h.stacks_in k v off);
      standing = record {
        rows = λ v k. at_takes (λ x. x ≡ InRow k → k ≤ z.markers) m r w c.place v (λ at wrong. absurd cc) (h.standing.rows v k);
        hands = λ v k. at_takes (λ x. x ≡ InHand k → c.hand k ≡ Some v) m r w c.place v (λ at wrong. absurd cc) (h.standing.hands v k);
        own = λ v. at_takes (λ x. x ≡ InCollector → c.own_hand ≡ Some v) m r w c.place v (λ at wrong. absurd cc) (h.standing.own v);
        in_hand = λ k v other. at_takes (λ x. x ≡ InHand k) m r w c.place v (λ at. absurd (let was = h.standing.in_hand k v other in cc)) (h.standing.in_hand k v other);
        in_own = λ v other. at_takes (λ x. x ≡ InCollector) m r w c.place v (λ at. absurd (let was = h.standing.in_own v other in cc)) (h.standing.in_own v other);
        scans = λ v k. at_takes (λ x. x ≡ UnderScan k → (s : Scan) × (c.scan k ≡ Some s) × (s.unit ≡ v)) m r w c.place v (λ at wrong. absurd cc) (h.standing.scans v k);
        under = λ k s e. at_takes (λ x. x ≡ UnderScan k) m r w c.place s.unit (λ at. absurd (let was = h.standing.under k s e in cc)) (h.standing.under k s e);
      };
      grey = grey_regrouped c.doomed c.marked c.scanned c.place (takes m r w c.place) same h.grey;
      black = λ mm. black_regrouped c.doomed c.marked c.place (takes m r w c.place) c.cells c.cell c.scan same (h.black mm);
      roots = h.roots;
      quiet = λ out. let was = h.quiet out in record { places = λ u. same.to u (was.places u); clean = was.clean; lanes = was.lanes; markers = was.markers };
      work = h.work;
      looked =
          looked_fewer c.job c.dirty c.lane_owes c.marker_owes c.place (takes m r w c.place)
          (λ v k. at_takes (λ x. x ≡ InRow k → c.place v ≡ InRow k) m r w c.place v (λ at wrong. absurd cc) (λ e. e)) h.looked;
      cells = h.cells;
      root_set = h.root_set;
      held = h.held;
      found = h.found;
      idle = h.idle;
    }
