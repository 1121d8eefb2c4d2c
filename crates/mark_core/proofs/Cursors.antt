-- A cursor moves on, a scan starts, a word of a row is taken.
use Rattle.std.proofs.Common.{◌≡◌, ℕ, ◌+◌, ◌*◌, ◌-◌, ◌/◌, ◌<◌, ◌≤◌, ◌^◌, ◌==◌, ◌&&◌, nat_lt, nat_le, refl, sym, subst, ap, ◌∙◌, inl, inr, arith, Bool, cond, true, false, List, [], ◌∷◌, ◌⊎◌, Some, None}
use Rattle.std.proofs.Math.Path.{fun_ext}
use Rattle.std.proofs.Math.Nat.{mul-le-mul_right}
use Rattle.std.proofs.lemmas.Bool.{eqb-true, eq-eqb}
use Rattle.mark_core.specs.declared.types.Shape.{Shape}
use Rattle.mark_core.specs.declared.types.ScanAt.{ScanAt}
use Rattle.mark_core.specs.Changes.{set_at}
use Rattle.mark_core.specs.Machine.{Place, InRow, OnStack, UnderScan, Core, same_place}
use Rattle.mark_core.specs.Steps.{leaves, goes_on, moves_on, starts, behind, takes}
use Rattle.mark_core.specs.Shown.{numbers, own_cells, cells_from, scan_of, IsShape}
use Rattle.mark_core.proofs.Numbers.{cells_from_next, cells_from_end, numbers-zero}
use Rattle.mark_core.proofs.Tools.{same_or_not, set_here, set_there}

-- the end of a unit's cells fits a word
pub unit_end : (z : Shape) (u : ℕ) → IsShape z → u < z.units → (u + 1) * z.cells < 2 ^ 32
unit_end z u h lt =
    let most : (u + 1) * z.cells ≤ z.units * z.cells = mul-le-mul_right {m = u + 1} {n = z.units} z.cells (omega arith) in
    let few = h.few in
    omega arith

moves_by : (z : Shape) (c : Core) (m : ℕ) (s : ScanAt) (rest : List ℕ) → s.next < (s.unit + 1) * z.cells → cells_from z s.unit (s.next + 1) ≡ rest
    → moves_on c m (scan_of z (Some s)) ≡ goes_on c m (record { unit = s.unit; left = cells_from z s.unit s.next; found = s.found }) rest
moves_by z c m s rest lt is =
    ap (λ (xs : List ℕ). goes_on c m (record { unit = s.unit; left = cells_from z s.unit s.next; found = s.found }) (behind xs)) (cells_from_next z s.unit s.next lt)
    ∙ ap (λ (xs : List ℕ). goes_on c m (record { unit = s.unit; left = cells_from z s.unit s.next; found = s.found }) xs) is

-- there is a next cell
pub moves_next : (z : Shape) (c : Core) (m : ℕ) (s : ScanAt) → s.next < (s.unit + 1) * z.cells → s.next + 1 < (s.unit + 1) * z.cells
    → moves_on c m (scan_of z (Some s)) ≡ record c { scan = set_at c.scan m (scan_of z (Some (record { unit = s.unit; next = s.next + 1; found = None }))) }
moves_next z c m s lt more =
    let rest = cells_from_next z s.unit (s.next + 1) more in
    moves_by z c m s ((s.next + 1) ∷ cells_from z s.unit (s.next + 1 + 1)) lt rest
    ∙ ap (λ (xs : List ℕ). record c { scan = set_at c.scan m (Some (record { unit = s.unit; left = xs; found = None })) }) (sym rest)

-- there is none
pub moves_end : (z : Shape) (c : Core) (m : ℕ) (s : ScanAt) → s.next < (s.unit + 1) * z.cells → (s.unit + 1) * z.cells ≤ s.next + 1
    → moves_on c m (scan_of z (Some s)) ≡ record (leaves c s.unit) { scan = set_at c.scan m None }
moves_end z c m s lt ends = moves_by z c m s [] lt (cells_from_end z s.unit (s.next + 1) ends)

-- a unit without cells is scanned at once
pub starts_none : (z : Shape) (c : Core) (m u : ℕ) → z.cells ≡ 0 → starts c m u (own_cells z u) ≡ leaves c u
starts_none z c m u none = ap (starts c m u) (ap (λ (n : ℕ). numbers (u * z.cells) n) none ∙ numbers-zero (u * z.cells))

pub starts_some : (z : Shape) (c : Core) (m u next : ℕ) → 0 < z.cells → next ≡ (u + 1) * z.cells - z.cells
    → starts c m u (own_cells z u) ≡ record c { place = set_at c.place u (UnderScan m); scan = set_at c.scan m (scan_of z (Some (record { unit = u; next = next; found = None }))) }
starts_some z c m u next some at =
    let one : (u + 1) * z.cells ≡ u * z.cells + z.cells = grind arith in
    let first : u * z.cells ≡ next = omega arith in
    let many : z.cells ≡ (u + 1) * z.cells - next = omega arith in
    let all : own_cells z u ≡ cells_from z u next = ap (λ (n : ℕ). numbers n z.cells) first ∙ ap (numbers next) many in
    let front = cells_from_next z u next (omega arith) in
    ap (starts c m u) (all ∙ front)
    ∙ ap (λ (xs : List ℕ). record c { place = set_at c.place u (UnderScan m); scan = set_at c.scan m (Some (record { unit = u; left = xs; found = None })) }) (sym front)

-- the first bits of a word are taken
abbrev pub takes_below : ℕ → ℕ → ℕ → ℕ → (ℕ → Place) → ℕ → Place
takes_below m row first n place u = cond (same_place (place u) (InRow row) && (nat_lt u (first + n) && nat_le first u)) (OnStack m) (place u)

-- none of the bits is taken yet
pub takes_none : (m row first : ℕ) (place : ℕ → Place) → place ≡ takes_below m row first 0 place
takes_none m row first place = fun_ext at
  where
    out : (u : ℕ) → (nat_lt u (first + 0) && nat_le first u) ≡ false
    out u = grind arith

    none : (s : Bool) (p : Place) → p ≡ cond (s && false) (OnStack m) p
    none true p = refl
    none false p = refl

    at : (u : ℕ) → place u ≡ takes_below m row first 0 place u
    at u = none (same_place (place u) (InRow row)) (place u) ∙ ap (λ (b : Bool). cond (same_place (place u) (InRow row) && b) (OnStack m) (place u)) (sym (out u))

-- one more is
pub takes_more : (m row first n : ℕ) (place : ℕ → Place)
    → cond (same_place (takes_below m row first n place (first + n)) (InRow row)) (set_at (takes_below m row first n place) (first + n) (OnStack m))
    (takes_below m row first n place) ≡ takes_below m row first (n + 1) place
takes_more m row first n place = fun_ext (λ u. at u (same_or_not u (first + n)))
  where
    this_out : (nat_lt (first + n) (first + n) && nat_le first (first + n)) ≡ false
    this_out = grind arith

    this_in : (nat_lt (first + n) (first + (n + 1)) && nat_le first (first + n)) ≡ true
    this_in = grind arith

    same_test : (u : ℕ) → (u ≡ first + n → ⊥) → (nat_lt u (first + n) && nat_le first u) ≡ (nat_lt u (first + (n + 1)) && nat_le first u)
    same_test u o = grind arith

    kept : (s : Bool) (p : Place) → cond (s && false) (OnStack m) p ≡ p
    kept true p = refl
    kept false p = refl

    this : takes_below m row first n place (first + n) ≡ place (first + n)
    this = ap (λ (b : Bool). cond (same_place (place (first + n)) (InRow row) && b) (OnStack m) (place (first + n))) this_out ∙ kept (same_place (place (first + n)) (InRow row)) (place (first + n))

    chosen : Bool → ℕ → Place
    chosen b = cond b (set_at (takes_below m row first n place) (first + n) (OnStack m)) (takes_below m row first n place)

    here : (s : Bool) → same_place (place (first + n)) (InRow row) ≡ s → chosen s (first + n) ≡ cond (s && true) (OnStack m) (place (first + n))
    here true e = set_here (takes_below m row first n place) (first + n) (OnStack m) (first + n) refl
    here false e = this

    there : (u : ℕ) → (u ≡ first + n → ⊥) → (s : Bool) → chosen s u ≡ takes_below m row first n place u
    there u o true = set_there (takes_below m row first n place) (first + n) (OnStack m) u o
    there u o false = refl

    at_this : chosen (same_place (takes_below m row first n place (first + n)) (InRow row)) (first + n) ≡ takes_below m row first (n + 1) place (first + n)
    at_this =
        ap (λ (p : Place). chosen (same_place p (InRow row)) (first + n)) this
        ∙ (here (same_place (place (first + n)) (InRow row)) refl
        ∙ ap (λ (b : Bool). cond (same_place (place (first + n)) (InRow row) && b) (OnStack m) (place (first + n))) (sym this_in))

    at : (u : ℕ) → (u ≡ first + n) ⊎ (u ≡ first + n → ⊥) → chosen (same_place (takes_below m row first n place (first + n)) (InRow row)) u ≡ takes_below m row first (n + 1) place u
    at u (inl e) = subst (λ (x : ℕ). chosen (same_place (takes_below m row first n place (first + n)) (InRow row)) x ≡ takes_below m row first (n + 1) place x) (sym e) at_this
    at u (inr o) =
        there u o (same_place (takes_below m row first n place (first + n)) (InRow row))
        ∙ ap (λ (b : Bool). cond (same_place (place u) (InRow row) && b) (OnStack m) (place u)) (same_test u o)

-- all of them are
pub takes_all : (m row word : ℕ) (place : ℕ → Place) → takes_below m row (64 * word) 64 place ≡ takes m row word place
takes_all m row word place = fun_ext (λ u. ap (λ (b : Bool). cond (same_place (place u) (InRow row) && b) (OnStack m) (place u)) (same_test u))
  where
    same_test : (u : ℕ) → (nat_lt u (64 * word + 64) && nat_le (64 * word) u) ≡ (u / 64 == word)
    same_test u = go (u / 64 == word) refl
      where
        go : (b : Bool) → (u / 64 == word) ≡ b → (nat_lt u (64 * word + 64) && nat_le (64 * word) u) ≡ b
        go true e = let at : u / 64 ≡ word = eqb-true (u / 64) word e in grind arith
        go false e = let n : u / 64 ≡ word → ⊥ = λ s. absurd (let t : (u / 64 == word) ≡ true = eq-eqb (u / 64) word s in cc) in grind arith
