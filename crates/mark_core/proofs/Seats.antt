-- Frames open and close, lanes gain units, the dirty bit is set.
use Rattle.std.proofs.Common.{◌≡◌, ℕ, ◌<◌, refl, sym, subst, ◌∙◌, arith, Bool, true, false, Option, Some, None, IfSome}
use Rattle.mark_core.specs.Changes.{set_at}
use Rattle.mark_core.specs.Machine.{Place, OnStack, Job, NoJob, Roots, Look, Sizes, Core}
use Rattle.mark_core.specs.Steps.{is_live, IsFree, gains}
use Rattle.mark_core.specs.Lawful.{Lawful, LookedAt}
use Rattle.mark_core.proofs.Tools.{at_set, at_set_in, set_there, apart}

was_off : (f : ℕ → Bool) (l k : ℕ) → set_at f l true k ≡ false → f k ≡ false
was_off f l k = at_set (λ b. b ≡ false → f k ≡ false) f l true k (λ e wrong. absurd cc) (λ n off. off)

pub lane_opens : (z : Sizes) (c : Core) (l : ℕ) → l < z.lanes → Lawful z c → Lawful z (record c { lane_open = set_at c.lane_open l true })
lane_opens z c l lt h = record {
  beyond = h.beyond;
  scans_own = h.scans_own;
  open_in = record { lanes = λ k far. at_set (λ b. b ≡ false) c.lane_open l true k (λ e. absurd (omega arith)) (λ n. h.open_in.lanes k far); markers = h.open_in.markers };
  lanes = record { hand_is = λ k off. h.lanes.hand_is k (was_off c.lane_open l k off); owes_is = λ k off. h.lanes.owes_is k (was_off c.lane_open l k off) };
  markers = h.markers;
  held_in = λ k u off. h.held_in k u (was_off c.lane_open l k off);
  stacks_in = h.stacks_in;
  standing = h.standing;
  grey = h.grey;
  black = h.black;
  roots = h.roots;
  quiet = h.quiet;
  work = h.work;
  looked = h.looked;
  cells = h.cells;
  root_set = h.root_set;
  held = h.held;
  found = h.found;
  idle = h.idle;
}

pub marker_opens : (z : Sizes) (c : Core) (m : ℕ) → m < z.markers → Lawful z c → Lawful z (record c { marker_open = set_at c.marker_open m true })
marker_opens z c m lt h = record {
  beyond = h.beyond;
  scans_own = h.scans_own;
  open_in = record { lanes = h.open_in.lanes; markers = λ k far. at_set (λ b. b ≡ false) c.marker_open m true k (λ e. absurd (omega arith)) (λ n. h.open_in.markers k far) };
  lanes = h.lanes;
  markers = record { scan_is = λ k off. h.markers.scan_is k (was_off c.marker_open m k off); owes_is = λ k off. h.markers.owes_is k (was_off c.marker_open m k off) };
  held_in = h.held_in;
  stacks_in = λ k u off. h.stacks_in k u (was_off c.marker_open m k off);
  standing = h.standing;
  grey = h.grey;
  black = h.black;
  roots = h.roots;
  quiet = h.quiet;
  work = h.work;
  looked = h.looked;
  cells = h.cells;
  root_set = h.root_set;
  held = h.held;
  found = h.found;
  idle = h.idle;
}

-- what holds of the one that closes, and of those that were closed, holds of those that are closed now
closes : (Q : ℕ → Type 0) (f : ℕ → Bool) (l : ℕ) → Q l → ((k : ℕ) → f k ≡ false → Q k) → (k : ℕ) → set_at f l false k ≡ false → Q k
closes Q f l here there k = at_set (λ b. b ≡ false → Q k) f l false k (λ e off. subst Q (sym e) here) (λ n off. there k off)

pub lane_closed : (z : Sizes) (c : Core) (l : ℕ) → IsFree c l → Lawful z c → Lawful z (record c { lane_open = set_at c.lane_open l false; holds = set_at c.holds l (λ u. false) })
lane_closed z c l free h = record {
  beyond = h.beyond;
  scans_own = h.scans_own;
  open_in = record { lanes = λ k far. at_set (λ b. b ≡ false) c.lane_open l false k (λ e. refl) (λ n. h.open_in.lanes k far); markers = h.open_in.markers };
  lanes = record {
    hand_is = closes (λ k. c.hand k ≡ None) c.lane_open l free.hand h.lanes.hand_is;
    owes_is = closes (λ k. c.lane_owes k ≡ false) c.lane_open l free.owes h.lanes.owes_is;
  };
  markers = h.markers;
  held_in = λ k u off. at_set (λ f. f u ≡ false) c.holds l (λ v. false) k (λ e. refl) (λ n. h.held_in k u (sym (set_there c.lane_open l false k n) ∙ off));
  stacks_in = h.stacks_in;
  standing = h.standing;
  grey = h.grey;
  black = h.black;
  roots = h.roots;
  quiet = h.quiet;
  work = h.work;
  looked = h.looked;
  cells = h.cells;
  root_set = h.root_set;
  held = λ k u. at_set (λ f. f u ≡ true → is_live c.phase c.doomed c.marked u ≡ true) c.holds l (λ v. false) k (λ e wrong. absurd cc) (λ n. h.held k u);
  found = h.found;
  idle = h.idle;
}

pub marker_closed : (z : Sizes) (c : Core) (m : ℕ) → c.scan m ≡ None → c.marker_owes m ≡ false → ((u : ℕ) → c.place u ≡ OnStack m → ⊥) → Lawful z c
    → Lawful z (record c { marker_open = set_at c.marker_open m false })
marker_closed z c m none clear empty h = record {
  beyond = h.beyond;
  scans_own = h.scans_own;
  open_in = record { lanes = h.open_in.lanes; markers = λ k far. at_set (λ b. b ≡ false) c.marker_open m false k (λ e. refl) (λ n. h.open_in.markers k far) };
  lanes = h.lanes;
  markers = record {
    scan_is = closes (λ k. c.scan k ≡ None) c.marker_open m none h.markers.scan_is;
    owes_is = closes (λ k. c.marker_owes k ≡ false) c.marker_open m clear h.markers.owes_is;
  };
  held_in = h.held_in;
  stacks_in = λ k u off. closes (λ i. c.place u ≡ OnStack i → ⊥) c.marker_open m (empty u) (λ i shut. h.stacks_in i u shut) k off;
  standing = h.standing;
  grey = h.grey;
  black = h.black;
  roots = h.roots;
  quiet = h.quiet;
  work = h.work;
  looked = h.looked;
  cells = h.cells;
  root_set = h.root_set;
  held = h.held;
  found = h.found;
  idle = h.idle;
}

-- an open lane holds a unit of the world more
pub gained : (z : Sizes) (c : Core) (l : ℕ) (got : Option ℕ) → c.lane_open l ≡ true → IfSome got (λ u. is_live c.phase c.doomed c.marked u ≡ true) → Lawful z c → Lawful z (gains c l got)
gained z c l None on live h = h
gained z c l (Some u) on live h = record {
  beyond = h.beyond;
  scans_own = h.scans_own;
  open_in = h.open_in;
  lanes = h.lanes;
  markers = h.markers;
  held_in = λ k v off. at_set_in (λ b. b ≡ false) c.holds l u true k v (λ e f. absurd (apart c.lane_open l k on off e)) (h.held_in k v off);
  stacks_in = h.stacks_in;
  standing = h.standing;
  grey = h.grey;
  black = h.black;
  roots = h.roots;
  quiet = h.quiet;
  work = h.work;
  looked = h.looked;
  cells = h.cells;
  root_set = h.root_set;
  held =
      λ k v.
      at_set_in (λ b. b ≡ true → is_live c.phase c.doomed c.marked v ≡ true) c.holds l u true k v
      (λ e f t. subst (λ (x : ℕ). is_live c.phase c.doomed c.marked x ≡ true) (sym f) live) (h.held k v);
  found = h.found;
  idle = h.idle;
}

-- what was said of the looked at rows is not asked while the gate is dirty
pub looked_dirty : (job : Job) (lo mo : ℕ → Bool) (place : ℕ → Place) → LookedAt job true lo mo place
looked_dirty NoJob lo mo place = tt
looked_dirty (Roots p) lo mo place = tt
looked_dirty (Look r w) lo mo place = λ clean. absurd cc

-- nor while one owes
pub looked_lane_owes : (job : Job) (d : Bool) (lo mo : ℕ → Bool) (place : ℕ → Place) (l : ℕ) → lo l ≡ true → LookedAt job d lo mo place
looked_lane_owes NoJob d lo mo place l owes = tt
looked_lane_owes (Roots p) d lo mo place l owes = tt
looked_lane_owes (Look r w) d lo mo place l owes = λ clean lanes. absurd (let clear = lanes l in cc)

pub looked_marker_owes : (job : Job) (d : Bool) (lo mo : ℕ → Bool) (place : ℕ → Place) (m : ℕ) → mo m ≡ true → LookedAt job d lo mo place
looked_marker_owes NoJob d lo mo place m owes = tt
looked_marker_owes (Roots p) d lo mo place m owes = tt
looked_marker_owes (Look r w) d lo mo place m owes = λ clean lanes markers. absurd (let clear = markers m in cc)

pub lane_dirties : (z : Sizes) (c : Core) (l : ℕ) → c.lane_owes l ≡ true → Lawful z c → Lawful z (record c { dirty = true; lane_owes = set_at c.lane_owes l false })
lane_dirties z c l owes h = record {
  beyond = h.beyond;
  scans_own = h.scans_own;
  open_in = h.open_in;
  lanes = record { hand_is = h.lanes.hand_is; owes_is = λ k off. at_set (λ b. b ≡ false) c.lane_owes l false k (λ e. refl) (λ n. h.lanes.owes_is k off) };
  markers = h.markers;
  held_in = h.held_in;
  stacks_in = h.stacks_in;
  standing = h.standing;
  grey = h.grey;
  black = h.black;
  roots = h.roots;
  quiet = λ out. absurd (let clear = (h.quiet out).lanes l in cc);
  work = h.work;
  looked = looked_dirty c.job (set_at c.lane_owes l false) c.marker_owes c.place;
  cells = h.cells;
  root_set = h.root_set;
  held = h.held;
  found = h.found;
  idle = h.idle;
}

pub marker_dirties : (z : Sizes) (c : Core) (m : ℕ) → c.marker_owes m ≡ true → Lawful z c → Lawful z (record c { dirty = true; marker_owes = set_at c.marker_owes m false })
marker_dirties z c m owes h = record {
  beyond = h.beyond;
  scans_own = h.scans_own;
  open_in = h.open_in;
  lanes = h.lanes;
  markers = record { scan_is = h.markers.scan_is; owes_is = λ k off. at_set (λ b. b ≡ false) c.marker_owes m false k (λ e. refl) (λ n. h.markers.owes_is k off) };
  held_in = h.held_in;
  stacks_in = h.stacks_in;
  standing = h.standing;
  grey = h.grey;
  black = h.black;
  roots = h.roots;
  quiet = λ out. absurd (let clear = (h.quiet out).markers m in cc);
  work = h.work;
  looked = looked_dirty c.job c.lane_owes (set_at c.marker_owes m false) c.place;
  cells = h.cells;
  root_set = h.root_set;
  held = h.held;
  found = h.found;
  idle = h.idle;
}
