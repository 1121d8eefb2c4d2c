-- Writes to the lists of a machine, as changes of its state.
use Rattle.std.proofs.Common.{◌≡◌, ℕ, ◌+◌, ◌-◌, ◌<◌, ◌≤◌, nat_lt, refl, sym, ap, ◌∙◌, inl, inr, arith, rules, Bool, cond, true, false, zero, suc, List, [], ◌∷◌, ◌⊎◌, length, map, Option, Some, None}
use Rattle.std.proofs.Math.Path.{fun_ext}
use Rattle.std.proofs.Math.ListN.{get_or, set}
use Rattle.std.proofs.lemmas.List.{get_or-set_other}
use Rattle.std.proofs.lemmas.Grind.{get_or-set_at}
use Rattle.mark_core.specs.Changes.{set_at, set_in}
use Rattle.mark_core.specs.declared.types.Shape.{Shape}
use Rattle.mark_core.specs.declared.types.ScanAt.{ScanAt}
use Rattle.mark_core.specs.Shown.{root_of, scan_of}
use Rattle.mark_core.proofs.Tools.{same_or_not, set_here, set_there}
use Rattle.mark_core.proofs.Sets.{list-set}

-- a write to one list of a table
pub table-set : (rows : List (List Bool)) (r k : ℕ) (row : List Bool) (b : Bool) → r < length rows → k < length (get_or rows r []) → row ≡ set (get_or rows r []) k b
    → (λ (i j : ℕ). get_or (get_or (set rows r row) i []) j false) ≡ set_in (λ (i j : ℕ). get_or (get_or rows i []) j false) r k b
table-set rows r k row b lt small is = fun_ext (λ i. at i (same_or_not i r))
  where
    at : (i : ℕ) → (i ≡ r) ⊎ (i ≡ r → ⊥) → (λ (j : ℕ). get_or (get_or (set rows r row) i []) j false) ≡ set_in (λ (p j : ℕ). get_or (get_or rows p []) j false) r k b i
    at i (inl e) =
        ap (λ (xs : List Bool). λ (j : ℕ). get_or xs j false) (get_or-set_at rows r i row [] e lt ∙ is)
        ∙ (list-set false (get_or rows r []) k b small ∙ sym (set_here (λ (p j : ℕ). get_or (get_or rows p []) j false) r (set_at (λ (j : ℕ). get_or (get_or rows r []) j false) k b) i e))
    at i (inr n) =
        ap (λ (xs : List Bool). λ (j : ℕ). get_or xs j false) (get_or-set_other rows r i row [] n)
        ∙ sym (set_there (λ (p j : ℕ). get_or (get_or rows p []) j false) r (set_at (λ (j : ℕ). get_or (get_or rows r []) j false) k b) i n)

pub all_false : (xs : List Bool) → (let f : ℕ → Bool = λ j. get_or (map (λ (b : Bool). false) xs) j false in let none : ℕ → Bool = λ j. false in f ≡ none)
all_false xs = fun_ext (off xs)
  where
    off : (bs : List Bool) (k : ℕ) → get_or (map (λ (b : Bool). false) bs) k false ≡ false
    off [] k = refl
    off (x ∷ bs) zero = refl
    off (x ∷ bs) (suc k) = off bs k

-- one list of a table is cleared
pub table-clear : (rows : List (List Bool)) (r : ℕ) (row old : List Bool) → r < length rows → row ≡ map (λ (b : Bool). false) old
    → (λ (i j : ℕ). get_or (get_or (set rows r row) i []) j false) ≡ set_at {A = ℕ → Bool} (λ (i j : ℕ). get_or (get_or rows i []) j false) r (λ j. false)
table-clear rows r row old lt is = fun_ext (λ i. at i (same_or_not i r))
  where
    at : (i : ℕ) → (i ≡ r) ⊎ (i ≡ r → ⊥) → (λ (j : ℕ). get_or (get_or (set rows r row) i []) j false) ≡ set_at {A = ℕ → Bool} (λ (p j : ℕ). get_or (get_or rows p []) j false) r (λ j. false) i
    at i (inl e) =
        ap (λ (xs : List Bool). λ (j : ℕ). get_or xs j false) (get_or-set_at rows r i row [] e lt ∙ is)
        ∙ (all_false old ∙ sym (set_here {A = ℕ → Bool} (λ (p j : ℕ). get_or (get_or rows p []) j false) r (λ j. false) i e))
    at i (inr n) =
        ap (λ (xs : List Bool). λ (j : ℕ). get_or xs j false) (get_or-set_other rows r i row [] n)
        ∙ sym (set_there {A = ℕ → Bool} (λ (p j : ℕ). get_or (get_or rows p []) j false) r (λ j. false) i n)

below_test : (a b : ℕ) → a < b → nat_lt a b ≡ true
below_test a b lt = search rules

from_test : (a b : ℕ) → b ≤ a → nat_lt a b ≡ false
from_test a b le = search rules

at_root : (units : ℕ) (rooted : List Bool) (strong : List (Option ℕ)) (p : ℕ) (b : Bool) → nat_lt p units ≡ b
    → root_of units rooted strong p ≡ cond b (cond (get_or rooted p false) (Some p) None) (get_or strong (p - units) None)
at_root units rooted strong p b e = ap (λ (x : Bool). cond x (cond (get_or rooted p false) (Some p) None) (get_or strong (p - units) None)) e

-- a strong pointer is written
pub strong-set : (units : ℕ) (rooted : List Bool) (strong : List (Option ℕ)) (l : ℕ) (to : Option ℕ) → l < length strong
    → root_of units rooted (set strong l to) ≡ set_at (root_of units rooted strong) (units + l) to
strong-set units rooted strong l to lt = fun_ext (λ p. at p (nat_lt p units) refl (same_or_not p (units + l)))
  where
    at : (p : ℕ) (b : Bool) → nat_lt p units ≡ b → (p ≡ units + l) ⊎ (p ≡ units + l → ⊥) → root_of units rooted (set strong l to) p ≡ set_at (root_of units rooted strong) (units + l) to p
    at p true e (inl same) = absurd (let below : p < units = search rules in omega arith)
    at p true e (inr n) = at_root units rooted (set strong l to) p true e ∙ (sym (at_root units rooted strong p true e) ∙ sym (set_there (root_of units rooted strong) (units + l) to p n))
    at p false e (inl same) =
        at_root units rooted (set strong l to) p false e
        ∙ (get_or-set_at strong l (p - units) to None (omega arith) lt ∙ sym (set_here (root_of units rooted strong) (units + l) to p same))
    at p false e (inr n) =
        let far : units ≤ p = search rules in
        at_root units rooted (set strong l to) p false e
        ∙ (get_or-set_other strong l (p - units) to None (λ wrong. n (omega arith))
        ∙ (sym (at_root units rooted strong p false e) ∙ sym (set_there (root_of units rooted strong) (units + l) to p n)))

-- a root bit is written
pub bit-set : (units : ℕ) (rooted : List Bool) (strong : List (Option ℕ)) (u : ℕ) (on : Bool) → u < units → u < length rooted
    → root_of units (set rooted u on) strong ≡ set_at (root_of units rooted strong) u (cond on (Some u) None)
bit-set units rooted strong u on small lt = fun_ext (λ p. at p (nat_lt p units) refl (same_or_not p u))
  where
    at : (p : ℕ) (b : Bool) → nat_lt p units ≡ b → (p ≡ u) ⊎ (p ≡ u → ⊥) → root_of units (set rooted u on) strong p ≡ set_at (root_of units rooted strong) u (cond on (Some u) None) p
    at p true e (inl same) =
        at_root units (set rooted u on) strong p true e
        ∙ (ap (λ (b : Bool). cond b (Some p) None) (get_or-set_at rooted u p on false same lt)
        ∙ (ap (λ (x : ℕ). cond on (Some x) None) same ∙ sym (set_here (root_of units rooted strong) u (cond on (Some u) None) p same)))
    at p true e (inr n) =
        at_root units (set rooted u on) strong p true e
        ∙ (ap (λ (b : Bool). cond b (Some p) None) (get_or-set_other rooted u p on false n)
        ∙ (sym (at_root units rooted strong p true e) ∙ sym (set_there (root_of units rooted strong) u (cond on (Some u) None) p n)))
    at p false e (inl same) = absurd (let far : units ≤ p = search rules in omega arith)
    at p false e (inr n) =
        at_root units (set rooted u on) strong p false e
        ∙ (sym (at_root units rooted strong p false e) ∙ sym (set_there (root_of units rooted strong) u (cond on (Some u) None) p n))

-- a scan is written
pub scan-set : (z : Shape) (scans : List (Option ScanAt)) (m : ℕ) (scan : Option ScanAt) → m < length scans
    → (λ (n : ℕ). scan_of z (get_or (set scans m scan) n None)) ≡ set_at (λ (n : ℕ). scan_of z (get_or scans n None)) m (scan_of z scan)
scan-set z scans m scan lt = fun_ext (λ n. at n (same_or_not n m))
  where
    at : (n : ℕ) → (n ≡ m) ⊎ (n ≡ m → ⊥) → scan_of z (get_or (set scans m scan) n None) ≡ set_at (λ (k : ℕ). scan_of z (get_or scans k None)) m (scan_of z scan) n
    at n (inl e) = ap (scan_of z) (get_or-set_at scans m n scan None e lt) ∙ sym (set_here (λ (k : ℕ). scan_of z (get_or scans k None)) m (scan_of z scan) n e)
    at n (inr o) = ap (scan_of z) (get_or-set_other scans m n scan None o) ∙ sym (set_there (λ (k : ℕ). scan_of z (get_or scans k None)) m (scan_of z scan) n o)
