-- What making a unit, clearing a doomed one, and loosening a member of one do to the machine.
use Rattle.std.specs.Prelude.{◌≡◌, ℕ, ◌==◌, Bool, true, false, ◌||◌, ◌&&◌, if◌then◌else◌, List, Option, Some, None}
use Rattle.mark_core.specs.Changes.{set_at, set_in, has}
use Rattle.mark_core.specs.Machine.{Core}
use Rattle.mark_core.specs.Steps.{is_found}

-- these cells are emptied
abbrev pub empties : List ℕ → (ℕ → Option ℕ) → ℕ → Option ℕ
empties cells cell n = if has cells n then None else cell n

-- a place without a unit gets a marked one with these cells, empty, which the lane holds
abbrev pub makes : Core → ℕ → ℕ → List ℕ → Core
makes c lane u cells =
    record c {
      doomed = set_at c.doomed u false;
      marked = set_at c.marked u true;
      cells = set_at c.cells u cells;
      cell = empties cells c.cell;
      scanned = set_at c.scanned u false;
      holds = set_in c.holds lane u true;
    }

-- no unit that is not doomed has one of these cells
abbrev pub AreFresh : Core → List ℕ → Type 0
AreFresh c cells = (v k : ℕ) → c.doomed v ≡ false → has (c.cells v) k ≡ true → has cells k ≡ false

-- Some cells of a doomed unit are emptied, and its place has these left. Before its place is one without a unit it
-- has none left; the machine knows the one from the other by nothing else
abbrev pub clears : Core → ℕ → List ℕ → List ℕ → Core
clears c u gone left = record c { cells = set_at c.cells u left; cell = empties gone c.cell }

-- what names the unit u names v from now on, at these numbers
abbrev pub renames : (ℕ → Bool) → ℕ → ℕ → (ℕ → Option ℕ) → ℕ → Option ℕ
renames at u v names n = if at n && is_found (names n) u then Some v else names n

-- A member of the unit u becomes a unit by itself, at the place v, so far without a unit. It takes its cells and its
-- root bit from the unit that it leaves, and is held by each lane that holds that unit. The cells and strong pointers
-- of which `by_cell` and `by_strong` say so named the unit by this member, and name the new unit.
abbrev pub loosens : Core → ℕ → ℕ → (own_cells left : List ℕ) (own_bit : ℕ) → (by_cell by_strong : ℕ → Bool) → Core
loosens c u v own_cells left own_bit by_cell by_strong = record c {
  doomed = set_at c.doomed v false;
  marked = set_at c.marked v true;
  scanned = set_at c.scanned v false;
  cells = set_at (set_at c.cells u left) v own_cells;
  cell = renames by_cell u v c.cell;
  root = renames (λ p. (p == own_bit) || by_strong p) u v c.root;
  holds = λ lane t. c.holds lane (if t == v then u else t);
}
