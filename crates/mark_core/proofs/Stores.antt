-- A cell or a place of the root set is written.
use Rattle.std.proofs.Common.{◌≡◌, ℕ, ◌<◌, sym, subst, inl, true, ◌⊎◌, Option, Some, None, IfSome}
use Rattle.mark_core.specs.Changes.{set_at}
use Rattle.mark_core.specs.Machine.{Marking, Sizes, Core, root_places}
use Rattle.mark_core.specs.Steps.{is_live}
use Rattle.mark_core.specs.Lawful.{Lawful, Unloaded}
use Rattle.mark_core.proofs.Tools.{at_set, some_same}

-- what may be stored: a unit of the world, which in a marking is marked
abbrev pub IsStorable : Core → Option ℕ → Type 0
IsStorable c to = IfSome to (λ u. (is_live c.phase c.doomed c.marked u ≡ true) × (c.phase ≡ Marking → c.marked u ≡ true))

live_stored : (c : Core) (to : Option ℕ) (v : ℕ) → IsStorable c to → to ≡ Some v → is_live c.phase c.doomed c.marked v ≡ true
live_stored c None v h e = absurd cc
live_stored c (Some u) v h e = subst (λ (x : ℕ). is_live c.phase c.doomed c.marked x ≡ true) (some_same u v e) h.0

marked_stored : (c : Core) (to : Option ℕ) (v : ℕ) → c.phase ≡ Marking → IsStorable c to → to ≡ Some v → c.marked v ≡ true
marked_stored c None v m h e = absurd cc
marked_stored c (Some u) v m h e = subst (λ (x : ℕ). c.marked x ≡ true) (some_same u v e) (h.1 m)

pub stores : (z : Sizes) (c : Core) (k : ℕ) (to : Option ℕ) → IsStorable c to → Lawful z c → Lawful z (record c { cell = set_at c.cell k to })
stores z c k to may h = record {
  beyond = h.beyond;
  scans_own = h.scans_own;
  open_in = h.open_in;
  lanes = h.lanes;
  markers = h.markers;
  held_in = h.held_in;
  stacks_in = h.stacks_in;
  standing = h.standing;
  grey = h.grey;
  black = λ m. record {
    black = λ v i t alive marked nowhere own. at_set (λ x. x ≡ Some t → c.marked t ≡ true) c.cell k to i (λ e. marked_stored c to t m may) (λ n. (h.black m).black v i t alive marked nowhere own);
    passed = λ n s i v e own other. at_set (λ x. x ≡ Some v → c.marked v ≡ true) c.cell k to i (λ e2. marked_stored c to v m may) (λ o. (h.black m).passed n s i v e own other);
    at_cursor =
        λ n s i rest t v e is f.
        at_set (λ x. x ≡ Some v → (c.marked v ≡ true) ⊎ (v ≡ t)) c.cell k to i (λ e2 g. inl (marked_stored c to v m may g))
        (λ o. (h.black m).at_cursor n s i rest t v e is f);
  };
  roots = h.roots;
  quiet = h.quiet;
  work = h.work;
  looked = h.looked;
  cells = λ v i t live own. at_set (λ x. x ≡ Some t → is_live c.phase c.doomed c.marked t ≡ true) c.cell k to i (λ e. live_stored c to t may) (λ o. h.cells v i t live own);
  root_set = h.root_set;
  held = h.held;
  found = h.found;
  idle = h.idle;
}

pub roots_set : (z : Sizes) (c : Core) (p : ℕ) (to : Option ℕ) → p < root_places z → IsStorable c to → Lawful z c → Lawful z (record c { root = set_at c.root p to })
roots_set z c p to in_range may h = record {
  beyond = h.beyond;
  scans_own = h.scans_own;
  open_in = h.open_in;
  lanes = h.lanes;
  markers = h.markers;
  held_in = h.held_in;
  stacks_in = h.stacks_in;
  standing = h.standing;
  grey = h.grey;
  black = h.black;
  roots = λ m q v. at_set (λ x. x ≡ Some v → (c.marked v ≡ true) ⊎ (Unloaded c.job q ⊎ (c.own_found v ≡ true))) c.root p to q (λ e f. inl (marked_stored c to v m may f)) (λ n. h.roots m q v);
  quiet = h.quiet;
  work = h.work;
  looked = h.looked;
  cells = h.cells;
  root_set =
      λ q v.
      at_set (λ x. x ≡ Some v → (q < root_places z) × (is_live c.phase c.doomed c.marked v ≡ true)) c.root p to q
      (λ e f. (subst (λ (x : ℕ). x < root_places z) (sym e) in_range, live_stored c to v may f)) (λ n. h.root_set q v);
  held = h.held;
  found = h.found;
  idle = h.idle;
}
