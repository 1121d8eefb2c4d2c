-- Cells of a doomed unit are emptied.
use Rattle.std.proofs.Common.{◌≡◌, ℕ, ap, subst, sym, true, false, List, Some}
use Rattle.mark_core.specs.Changes.{set_at, has}
use Rattle.mark_core.specs.Machine.{Scan}
use Rattle.mark_core.specs.Laws.{ClearingIsLawful}
use Rattle.mark_core.proofs.Tools.{set_there, live_alive}
use Rattle.mark_core.proofs.Makes.{still}

pub cleared : ClearingIsLawful
cleared z c u gone left dead h = record {
  beyond = h.beyond;
  scans_own = λ m s k at own. here s.unit k (λ e. scanned m s at e) (h.scans_own m s k at own);
  open_in = h.open_in;
  lanes = h.lanes;
  markers = h.markers;
  held_in = h.held_in;
  stacks_in = h.stacks_in;
  standing = h.standing;
  grey = h.grey;
  black = λ m. record {
    black = λ v k t alive marked nowhere own e. (h.black m).black v k t alive marked nowhere (before v k (λ same. gone_not v alive same) own) (still gone c.cell k t e);
    passed = λ i s k v at own other e. (h.black m).passed i s k v at (before s.unit k (λ same. scanned i s at same) own) other (still gone c.cell k v e);
    at_cursor = λ i s k rest t v at is found e. (h.black m).at_cursor i s k rest t v at is found (still gone c.cell k v e);
  };
  roots = h.roots;
  quiet = h.quiet;
  work = h.work;
  looked = h.looked;
  cells = λ v k t live own e. h.cells v k t live (before v k (λ same. gone_not v (live_alive c.phase c.doomed c.marked v live) same) own) (still gone c.cell k t e);
  root_set = h.root_set;
  held = h.held;
  found = h.found;
  idle = h.idle;
}
  where
    -- a unit of which something is said is another
    gone_not : (v : ℕ) → c.doomed v ≡ false → v ≡ u → ⊥
    gone_not v alive e = absurd (let same : c.doomed v ≡ c.doomed u = ap c.doomed e in cc)

    scanned : (m : ℕ) (s : Scan) → c.scan m ≡ Some s → s.unit ≡ u → ⊥
    scanned m s at e = absurd (let under = h.standing.under m s at in let none = h.grey.doomed_is u dead in let same : c.place s.unit ≡ c.place u = ap c.place e in cc)

    -- so its cells are those that it had
    before : (v k : ℕ) → (v ≡ u → ⊥) → has (set_at c.cells u left v) k ≡ true → has (c.cells v) k ≡ true
    before v k other own = subst (λ (xs : List ℕ). has xs k ≡ true) (set_there c.cells u left v other) own

    here : (v k : ℕ) → (v ≡ u → ⊥) → has (c.cells v) k ≡ true → has (set_at c.cells u left v) k ≡ true
    here v k other own = subst (λ (xs : List ℕ). has xs k ≡ true) (sym (set_there c.cells u left v other)) own
