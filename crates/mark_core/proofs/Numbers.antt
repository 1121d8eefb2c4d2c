-- The cells of a unit by number.
use Rattle.std.proofs.Common.{◌≡◌, ℕ, ◌+◌, ◌*◌, ◌-◌, ◌/◌, ◌<◌, ◌≤◌, ◌==◌, ◌||◌, nat_lt, refl, sym, subst, ap, ◌∙◌, zero, suc, arith, rules, is_some, not, Bool, cond, true, false, IsTrue, ◌↔◌, List, [], ◌∷◌, Option, Some, None}
use Rattle.std.proofs.lemmas.Bool.{eq-eqb}
use Rattle.std.proofs.lemmas.Nat.{div-mul-add}
use Rattle.std.proofs.Math.Nat.{mul-le-mul_right}
use Rattle.mark_core.specs.declared.types.Shape.{Shape}
use Rattle.mark_core.specs.declared.types.ScanAt.{ScanAt}
use Rattle.mark_core.specs.Changes.{has}
use Rattle.mark_core.specs.Machine.{Cell, CellOf, StrongOf, Scan, Core}
use Rattle.mark_core.specs.Steps.{MayUse, MarkerMay, LoadCell}
use Rattle.mark_core.specs.Numbered.{cell_of}
use Rattle.mark_core.specs.Shown.{sizes, numbers, own_cells, cells_from, scan_of, IsInUnit}
use Rattle.mark_core.proofs.Tools.{some_same}

pub has_numbers : (from n i : ℕ) → from ≤ i → i < from + n → has (numbers from n) i ≡ true
unfolding numbers
has_numbers from zero i le lt = absurd (omega arith)
has_numbers from (suc n) i le lt = go (i == from) refl (has_numbers (from + 1) n i)
  where
    go : (b : Bool) → (i == from) ≡ b → (from + 1 ≤ i → i < from + 1 + n → has (numbers (from + 1) n) i ≡ true) → (b || has (numbers (from + 1) n) i) ≡ true
    go true e next = refl
    go false e next = next (let n : i ≡ from → ⊥ = λ s. absurd (let t : (i == from) ≡ true = eq-eqb i from s in cc) in omega arith) (omega arith)

-- a number has a place in the cells of the unit that it is one of
pub cell_in_unit : (units cells n : ℕ) → n < units * cells → (n / cells * cells ≤ n) × (n < n / cells * cells + cells) × (n / cells < units)
cell_in_unit units cells n lt = (grind arith, grind arith, grind arith)

pub has_own : (z : Shape) (n : ℕ) → n < z.units * z.cells → has (own_cells z (n / z.cells)) n ≡ true
has_own z n lt = let at = cell_in_unit z.units z.cells n lt in has_numbers (n / z.cells * z.cells) z.cells n at.0 at.1

-- the number of a cell of a unit
pub cell_of_unit : (z : Shape) (n unit cell : ℕ) → CellOf unit cell ≡ cell_of z n → (n < z.units * z.cells) × (unit ≡ n / z.cells) × (cell ≡ n)
cell_of_unit z n unit cell e = go (nat_lt n (z.units * z.cells)) refl e
  where
    go : (b : Bool) → nat_lt n (z.units * z.cells) ≡ b → CellOf unit cell ≡ cond b (CellOf (n / z.cells) n) (StrongOf (n - z.units * z.cells) 0)
        → (n < z.units * z.cells) × (unit ≡ n / z.cells) × (cell ≡ n)
    go true t f = (search rules, cc, cc)
    go false t f = absurd cc

-- that of a strong pointer
pub cell_of_lane : (z : Shape) (n lane number : ℕ) → StrongOf lane number ≡ cell_of z n → (z.units * z.cells ≤ n) × (lane ≡ n - z.units * z.cells) × (number ≡ 0)
cell_of_lane z n lane number e = go (nat_lt n (z.units * z.cells)) refl e
  where
    go : (b : Bool) → nat_lt n (z.units * z.cells) ≡ b → StrongOf lane number ≡ cond b (CellOf (n / z.cells) n) (StrongOf (n - z.units * z.cells) 0)
        → (z.units * z.cells ≤ n) × (lane ≡ n - z.units * z.cells) × (number ≡ 0)
    go true t f = absurd cc
    go false t f = (search rules, cc, cc)

pub may_use_cell : (z : Shape) (c : Core) (lane n unit cell : ℕ) (b : Bool) → c.cells ≡ own_cells z → CellOf unit cell ≡ cell_of z n
    → b ≡ c.holds lane unit → IsTrue b ↔ MayUse (sizes z) c lane (cell_of z n)
may_use_cell z c lane n unit cell b own at is =
    let parts = cell_of_unit z n unit cell at in
    let has_it : has (c.cells unit) cell ≡ true =
    ap (λ (f : ℕ → List ℕ). has (f unit) cell) own
    ∙ (ap (λ (u : ℕ). has (own_cells z u) cell) parts.1 ∙ (ap (λ (k : ℕ). has (own_cells z (n / z.cells)) k) parts.2 ∙ has_own z n parts.0)) in
    subst (λ (x : Cell). IsTrue b ↔ MayUse (sizes z) c lane x) at
    (λ t. (sym is ∙ on b t, has_it), λ may. off b (is ∙ may.0))
  where
    on : (x : Bool) → IsTrue x → x ≡ true
    on x t = search rules

    off : (x : Bool) → x ≡ true → IsTrue x
    off x e = search rules

numbers-suc : (from k : ℕ) → numbers from (suc k) ≡ from ∷ numbers (from + 1) k
unfolding numbers
numbers-suc from k = refl

pub numbers-zero : (from : ℕ) → numbers from 0 ≡ []
unfolding numbers
numbers-zero from = refl

-- the cells from one on, by the first and the rest
pub cells_from_next : (z : Shape) (u next : ℕ) → next < (u + 1) * z.cells → cells_from z u next ≡ next ∷ cells_from z u (next + 1)
cells_from_next z u next lt =
    let more : (u + 1) * z.cells - next ≡ suc ((u + 1) * z.cells - (next + 1)) = omega arith in
    ap (numbers next) more ∙ numbers-suc next ((u + 1) * z.cells - (next + 1))

pub cells_from_end : (z : Shape) (u next : ℕ) → (u + 1) * z.cells ≤ next → cells_from z u next ≡ []
cells_from_end z u next le = let none : (u + 1) * z.cells - next ≡ 0 = omega arith in ap (numbers next) none ∙ numbers-zero next

-- the unit of a cell within its unit's cells
unit_of_cell : (units cells unit n : ℕ) → unit < units → unit * cells ≤ n → n < (unit + 1) * cells → (n < units * cells) × (n / cells ≡ unit)
unit_of_cell units cells unit n in_units from to =
    let most : (unit + 1) * cells ≤ units * cells = mul-le-mul_right {m = unit + 1} {n = units} cells (omega arith) in
    let one : (unit + 1) * cells ≡ unit * cells + cells = grind arith in
    let small : n - unit * cells < cells = omega arith in
    let back : unit * cells + (n - unit * cells) ≡ n = omega arith in
    (omega arith, ap (λ (x : ℕ). x / cells) (sym back) ∙ div-mul-add unit cells (n - unit * cells) small)

-- a marker may load the cell at its cursor
pub marker_loads_next : (z : Shape) (c : Core) (m : ℕ) (s : ScanAt) → scan_of z (Some s) ≡ c.scan m → IsInUnit z (Some s) → c.cells ≡ own_cells z
    → s.found ≡ None → MarkerMay (sizes z) c m (LoadCell (cell_of z s.next))
marker_loads_next z c m s at inside own none =
    let spot = unit_of_cell z.units z.cells s.unit s.next inside.0 inside.1 inside.2 in
    let left = cells_from_next z s.unit s.next inside.2 in
    subst (λ (x : Cell). MarkerMay (sizes z) c m (LoadCell x)) (sym (cell_at spot.0)) (
      cells_from z s.unit (s.next + 1),
      sym at ∙ ((λ i. Some (record { unit = sym spot.1 i; left = left i; found = none i }))),
      ap (λ (f : ℕ → List ℕ). has (f (s.next / z.cells)) s.next) own ∙ has_own z s.next spot.0,
    )
  where
    cell_at : s.next < z.units * z.cells → cell_of z s.next ≡ CellOf (s.next / z.cells) s.next
    cell_at lt = search rules

-- and no other
pub marker_loads_only : (z : Shape) (c : Core) (m n : ℕ) (s : ScanAt) → scan_of z (Some s) ≡ c.scan m → IsInUnit z (Some s)
    → MarkerMay (sizes z) c m (LoadCell (cell_of z n)) → (s.next ≡ n) × (s.found ≡ None)
marker_loads_only z c m n s at inside may = go (nat_lt n (z.units * z.cells)) may
  where
    first_of : List ℕ → ℕ
    first_of [] = 0
    first_of (x ∷ xs) = x

    left : cells_from z s.unit s.next ≡ s.next ∷ cells_from z s.unit (s.next + 1)
    left = cells_from_next z s.unit s.next inside.2

    go : (b : Bool) → MarkerMay (sizes z) c m (LoadCell (cond b (CellOf (n / z.cells) n) (StrongOf (n - z.units * z.cells) 0))) → (s.next ≡ n) × (s.found ≡ None)
    go true (rest, is, own) =
        let same : Some (record { unit = s.unit; left = cells_from z s.unit s.next; found = s.found }) ≡ Some (record { unit = n / z.cells; left = n ∷ rest; found = None }) = at ∙ is in
        let whole = some_same (record { unit = s.unit; left = cells_from z s.unit s.next; found = s.found }) (record { unit = n / z.cells; left = n ∷ rest; found = None }) same in
        let lefts : cells_from z s.unit s.next ≡ n ∷ rest = ap (λ (x : Scan). x.left) whole in
        (ap (λ (xs : List ℕ). first_of xs) (sym left ∙ lefts), ap (λ (x : Scan). x.found) whole)
    go false wrong = absurd wrong

-- a cell at the cursor may be loaded exactly where there is no found
pub marker_loads_at : (z : Shape) (c : Core) (m n : ℕ) (s : ScanAt) (b : Bool) → scan_of z (Some s) ≡ c.scan m → IsInUnit z (Some s) → c.cells ≡ own_cells z → s.next ≡ n → is_some s.found ≡ not b
    → IsTrue b ↔ MarkerMay (sizes z) c m (LoadCell (cell_of z n))
marker_loads_at z c m n s b at inside own same is = (
  λ t. subst (λ (k : ℕ). MarkerMay (sizes z) c m (LoadCell (cell_of z k))) same (marker_loads_next z c m s at inside own (none s.found b is t)),
  λ may. test s.found b is (marker_loads_only z c m n s at inside may).1,
)
  where
    none : (o : Option ℕ) (x : Bool) → is_some o ≡ not x → IsTrue x → o ≡ None
    none None x e t = refl
    none (Some u) true e t = absurd cc
    none (Some u) false e t = absurd (let wrong : false ≡ true = t in cc)

    test : (o : Option ℕ) (x : Bool) → is_some o ≡ not x → o ≡ None → IsTrue x
    test (Some u) x e f = absurd cc
    test None true e f = refl
    test None false e f = absurd cc
