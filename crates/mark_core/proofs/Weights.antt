-- How much is left to do for the markers, and that each of their events makes it less.
use Rattle.std.proofs.Common.{◌≡◌, ℕ, suc, ◌+◌, ◌*◌, ◌<◌, ◌≤◌, ◌/◌, ◌==◌, refl, sym, subst, ap, ◌∙◌, arith, Bool, cond, true, false, is_none, List, [], ◌∷◌, length, Option, Some, None}
use Rattle.std.proofs.lemmas.Bool.{eq-eqb}
use Rattle.mark_core.specs.Changes.{set_at}
use Rattle.mark_core.specs.Machine.{Place, Nowhere, InRow, OnStack, UnderScan, InHand, InCollector, Scan, Sizes, Core, same_place}
use Rattle.mark_core.specs.Steps.{behind, marks, leaves, goes_on, starts, takes}
use Rattle.mark_core.specs.Lawful.{Lawful}
use Rattle.mark_core.proofs.Tools.{at_set, at_takes, set_here, not_false, and_both}
use Rattle.mark_core.proofs.Ranges.{grey_in}
use Rattle.mark_core.proofs.Sums.{sum_below, sum_less, sum_le}

-- each cell that is left is loaded and settled
abbrev pub scan_left : Option Scan → ℕ
scan_left None = 0
scan_left (Some s) = 2 * length s.left + cond (is_none s.found) 1 0

-- a unit goes from white over a hand, a row, a stack and a scan to black
abbrev pub work_at : (ℕ → Option Scan) → ℕ → Bool → Place → ℕ
work_at scan n marked Nowhere = cond marked 0 (2 * n + 5)
work_at scan n marked (InRow r) = 2 * n + 3
work_at scan n marked (OnStack m) = 2 * n + 2
work_at scan n marked (UnderScan m) = scan_left (scan m)
work_at scan n marked (InHand l) = 2 * n + 4
work_at scan n marked InCollector = 2 * n + 4

abbrev pub work : Core → ℕ → ℕ
work c u = work_at c.scan (length (c.cells u)) (c.marked u) (c.place u)

abbrev pub weight : Sizes → Core → ℕ
weight z c = sum_below (work c) z.units

le_self : (n : ℕ) → n ≤ n
le_self n = omega arith

-- with less left of one scan
rescan_le : (scan : ℕ → Option Scan) (m : ℕ) (o : Option Scan) (n : ℕ) (b : Bool) (p : Place) → scan_left o ≤ scan_left (scan m) → work_at (set_at scan m o) n b p ≤ work_at scan n b p
rescan_le scan m o n b Nowhere le = le_self (cond b 0 (2 * n + 5))
rescan_le scan m o n b (InRow r) le = le_self (2 * n + 3)
rescan_le scan m o n b (OnStack k) le = le_self (2 * n + 2)
rescan_le scan m o n b (UnderScan k) le =
    at_set {A = Option Scan} (λ x. scan_left x ≤ scan_left (scan k)) scan m o k (λ e. subst (λ (i : ℕ). scan_left o ≤ scan_left (scan i)) (sym e) le)
    (λ e. le_self (scan_left (scan k)))
rescan_le scan m o n b (InHand l) le = le_self (2 * n + 4)
rescan_le scan m o n b InCollector le = le_self (2 * n + 4)

-- a marked unit that stands nowhere has nothing left
black_le : (scan : ℕ → Option Scan) (n k : ℕ) (b : Bool) → b ≡ true → work_at scan n b Nowhere ≤ k
black_le scan n k true e = omega arith
black_le scan n k false e = absurd cc

black_none : (scan : ℕ → Option Scan) (n : ℕ) (b : Bool) → b ≡ true → work_at scan n b Nowhere ≡ 0
black_none scan n true e = refl
black_none scan n false e = absurd cc

grey_marked : (z : Sizes) (c : Core) (u : ℕ) → (c.place u ≡ Nowhere → ⊥) → Lawful z c → c.marked u ≡ true
grey_marked z c u grey h = not_false (c.marked u) (λ off. grey (h.grey.marked_is u off))

under_work : (c : Core) (m : ℕ) (s : Scan) → c.scan m ≡ Some s → c.place s.unit ≡ UnderScan m → work c s.unit ≡ scan_left (Some s)
under_work c m s at under = ap (work_at c.scan (length (c.cells s.unit)) (c.marked s.unit)) under ∙ ap scan_left at

-- a scan of which less is left
pub rescan_less : (z : Sizes) (c : Core) (m : ℕ) (s t : Scan) → c.scan m ≡ Some s → scan_left (Some t) < scan_left (Some s) → Lawful z c
    → weight z (record c { scan = set_at c.scan m (Some t) }) < weight z c
rescan_less z c m s t at less h =
    let under = h.standing.under m s at in
    let le : scan_left (Some t) ≤ scan_left (c.scan m) = subst (λ (o : Option Scan). scan_left (Some t) ≤ scan_left o) (sym at) (omega arith) in
    let now : work (record c { scan = set_at c.scan m (Some t) }) s.unit ≡ scan_left (Some t) =
    ap (work_at (set_at c.scan m (Some t)) (length (c.cells s.unit)) (c.marked s.unit)) under
    ∙ ap scan_left (set_here c.scan m (Some t) m refl) in
    let was = under_work c m s at under in
    sum_less (work (record c { scan = set_at c.scan m (Some t) })) (work c) z.units s.unit (grey_in z c s.unit (λ none. absurd cc) h)
    (λ v. rescan_le c.scan m (Some t) (length (c.cells v)) (c.marked v) (c.place v) le)
    (omega arith)

-- a scan that ends
ends_less : (z : Sizes) (c : Core) (m : ℕ) (s : Scan) → c.scan m ≡ Some s → 0 < scan_left (Some s) → Lawful z c → weight z (record (leaves c s.unit) { scan = set_at c.scan m None }) < weight z c
ends_less z c m s at some h =
    let under = h.standing.under m s at in
    let marked = grey_marked z c s.unit (λ none. absurd cc) h in
    let was = under_work c m s at under in
    let now : work (record (leaves c s.unit) { scan = set_at c.scan m None }) s.unit ≡ 0 =
    ap (work_at (set_at c.scan m None) (length (c.cells s.unit)) (c.marked s.unit)) (set_here c.place s.unit Nowhere s.unit refl)
    ∙ black_none (set_at c.scan m None) (length (c.cells s.unit)) (c.marked s.unit) marked in
    sum_less (work (record (leaves c s.unit) { scan = set_at c.scan m None })) (work c) z.units s.unit (grey_in z c s.unit (λ none. absurd cc) h)
    (λ v. at_set (λ p. work_at (set_at c.scan m None) (length (c.cells v)) (c.marked v) p ≤ work c v) c.place s.unit Nowhere v
    (λ e. black_le (set_at c.scan m None) (length (c.cells v)) (work c v) (c.marked v) (ap c.marked e ∙ marked))
    (λ n. rescan_le c.scan m None (length (c.cells v)) (c.marked v) (c.place v) (omega arith)))
    (omega arith)

-- the first cell that is left is settled
pub goes_less : (z : Sizes) (c : Core) (m : ℕ) (s : Scan) (n : ℕ) (rest : List ℕ) → c.scan m ≡ Some s → s.left ≡ n ∷ rest → Lawful z c → weight z (goes_on c m s (behind s.left)) < weight z c
goes_less z c m s n rest at left h = subst (λ (ns : List ℕ). weight z (goes_on c m s (behind ns)) < weight z c) (sym left) (go rest left)
  where
    extra : (b : Bool) → cond b 1 0 ≤ 1
    extra true = omega arith
    extra false = omega arith

    go : (more : List ℕ) → s.left ≡ n ∷ more → weight z (goes_on c m s more) < weight z c
    go [] e = ends_less z c m s at (let long : length s.left ≡ 1 = ap length e in omega arith) h
    go (k ∷ more) e =
        let long : length s.left ≡ suc (suc (length more)) = ap length e in
        let some = extra (is_none s.found) in
        rescan_less z c m s (record { unit = s.unit; left = k ∷ more; found = None }) at (omega arith) h

-- a unit is found at the cursor
pub found_less : (z : Sizes) (c : Core) (m : ℕ) (s : Scan) (t : ℕ) → c.scan m ≡ Some s → s.found ≡ None → Lawful z c
    → weight z (record c { scan = set_at c.scan m (Some (record s { found = Some t })) }) < weight z c
found_less z c m s t at none h =
    let one : cond {A = ℕ} (is_none s.found) 1 0 ≡ 1 = ap (λ (o : Option ℕ). cond {A = ℕ} (is_none o) 1 0) none in
    rescan_less z c m s (record s { found = Some t }) at (omega arith) h

-- what a marker shades
pub marks_le : (z : Sizes) (c : Core) (m t : ℕ) → Lawful z c → weight z (marks c t (OnStack m)) ≤ weight z c
marks_le z c m t h = go (c.marked t) refl
  where
    marked_le : (v n : ℕ) (p : Place) → work_at c.scan n (set_at c.marked t true v) p ≤ work_at c.scan n (c.marked v) p
    marked_le v n p = at_set (λ b. work_at c.scan n b p ≤ work_at c.scan n (c.marked v) p) c.marked t true v (λ e. more p) (λ e. le_self (work_at c.scan n (c.marked v) p))
      where
        more : (q : Place) → work_at c.scan n true q ≤ work_at c.scan n (c.marked v) q
        more Nowhere = omega arith
        more (InRow r) = le_self (2 * n + 3)
        more (OnStack k) = le_self (2 * n + 2)
        more (UnderScan k) = le_self (scan_left (c.scan k))
        more (InHand l) = le_self (2 * n + 4)
        more InCollector = le_self (2 * n + 4)

    white_work : (v n : ℕ) → v ≡ t → c.marked t ≡ false → 2 * n + 2 ≤ work_at c.scan n (c.marked v) (c.place v)
    white_work v n e white =
        let nowhere : c.place v ≡ Nowhere = ap c.place e ∙ h.grey.marked_is t white in
        let off : c.marked v ≡ false = ap c.marked e ∙ white in
        subst (λ (p : Place). 2 * n + 2 ≤ work_at c.scan n (c.marked v) p) (sym nowhere) (subst (λ (b : Bool). 2 * n + 2 ≤ cond b 0 (2 * n + 5)) (sym off) (omega arith))

    go : (b : Bool) → c.marked t ≡ b → weight z (record c { marked = set_at c.marked t true; place = cond b c.place (set_at c.place t (OnStack m)) }) ≤ weight z c
    go true on = sum_le (work (record c { marked = set_at c.marked t true; place = c.place })) (work c) z.units (λ v. marked_le v (length (c.cells v)) (c.place v))
    go false white = sum_le (work (record c { marked = set_at c.marked t true; place = set_at c.place t (OnStack m) })) (work c) z.units
        (λ v. at_set (λ p. work_at c.scan (length (c.cells v)) (set_at c.marked t true v) p ≤ work c v) c.place t (OnStack m) v
        (λ e. white_work v (length (c.cells v)) e white)
        (λ n. marked_le v (length (c.cells v)) (c.place v)))

-- a scan starts
pub starts_less : (z : Sizes) (c : Core) (m u : ℕ) → c.scan m ≡ None → c.place u ≡ OnStack m → Lawful z c → weight z (starts c m u (c.cells u)) < weight z c
starts_less z c m u none at h = go (c.cells u) refl
  where
    was : work c u ≡ 2 * length (c.cells u) + 2
    was = ap (work_at c.scan (length (c.cells u)) (c.marked u)) at

    in_units : u < z.units
    in_units = grey_in z c u (λ wrong. absurd cc) h

    marked : c.marked u ≡ true
    marked = grey_marked z c u (λ wrong. absurd cc) h

    other : (s : Scan) (v n : ℕ) (b : Bool) (p : Place) → c.place v ≡ p → work_at (set_at c.scan m (Some s)) n b p ≤ work_at c.scan n b p
    other s v n b Nowhere e = le_self (cond b 0 (2 * n + 5))
    other s v n b (InRow r) e = le_self (2 * n + 3)
    other s v n b (OnStack k) e = le_self (2 * n + 2)
    other s v n b (UnderScan k) e =
        at_set {A = Option Scan} (λ x. scan_left x ≤ scan_left (c.scan k)) c.scan m (Some s) k
        (λ same. absurd (let is = h.standing.scans v k e in let some = is.1 in let nothing : c.scan k ≡ None = ap c.scan same ∙ none in cc))
        (λ n. le_self (scan_left (c.scan k)))
    other s v n b (InHand l) e = le_self (2 * n + 4)
    other s v n b InCollector e = le_self (2 * n + 4)

    go : (ns : List ℕ) → c.cells u ≡ ns → weight z (starts c m u ns) < weight z c
    go [] e =
        let now : work (leaves c u) u ≡ 0 = ap (work_at c.scan (length (c.cells u)) (c.marked u)) (set_here c.place u Nowhere u refl) ∙ black_none c.scan (length (c.cells u)) (c.marked u) marked in
        sum_less (work (leaves c u)) (work c) z.units u in_units
        (λ v. at_set (λ p. work_at c.scan (length (c.cells v)) (c.marked v) p ≤ work c v) c.place u Nowhere v
        (λ same. black_le c.scan (length (c.cells v)) (work c v) (c.marked v) (ap c.marked same ∙ marked)) (λ n. le_self (work c v)))
        (omega (arith, was))
    go (k ∷ rest) e =
        let s : Scan = record { unit = u; left = k ∷ rest; found = None } in
        let d : Core = record c { place = set_at c.place u (UnderScan m); scan = set_at c.scan m (Some (record { unit = u; left = k ∷ rest; found = None })) } in
        let long : length (c.cells u) ≡ suc (length rest) = ap length e in
        let mine : scan_left (set_at c.scan m (Some (record { unit = u; left = k ∷ rest; found = None })) m) ≡ 2 * suc (length rest) + 1 =
        ap scan_left (set_here c.scan m (Some (record { unit = u; left = k ∷ rest; found = None })) m refl) in
        let now : work d u ≡ 2 * suc (length rest) + 1 =
        ap (work_at (set_at c.scan m (Some (record { unit = u; left = k ∷ rest; found = None }))) (length (c.cells u)) (c.marked u))
        (set_here c.place u (UnderScan m) u refl) ∙ mine in
        sum_less (work d) (work c) z.units u in_units
        (λ v. at_set (λ p. work_at (set_at c.scan m (Some (record { unit = u; left = k ∷ rest; found = None }))) (length (c.cells v)) (c.marked v) p ≤ work c v) c.place u (UnderScan m) v
        (λ same. subst (λ (x : ℕ). scan_left (set_at c.scan m (Some (record { unit = u; left = k ∷ rest; found = None })) m) ≤ work c x) (sym same) (omega (arith, was)))
        (λ n. other (record { unit = u; left = k ∷ rest; found = None }) v (length (c.cells v)) (c.marked v) (c.place v) refl))
        (omega (arith, was))

-- a word of a row with a unit in it is taken
pub takes_less : (z : Sizes) (c : Core) (m r u : ℕ) → c.place u ≡ InRow r → Lawful z c → weight z (record c { place = takes m r (u / 64) c.place }) < weight z c
takes_less z c m r u at h =
    let was : work c u ≡ 2 * length (c.cells u) + 3 = ap (work_at c.scan (length (c.cells u)) (c.marked u)) at in
    let now : work (record c { place = takes m r (u / 64) c.place }) u ≡ 2 * length (c.cells u) + 2 = ap (work_at c.scan (length (c.cells u)) (c.marked u)) taken in
    sum_less (work (record c { place = takes m r (u / 64) c.place })) (work c) z.units u (grey_in z c u (λ none. absurd cc) h)
    (λ v. at_takes (λ p. work_at c.scan (length (c.cells v)) (c.marked v) p ≤ work c v) m r (u / 64) c.place v
    (λ in_row. subst (λ (p : Place). 2 * length (c.cells v) + 2 ≤ work_at c.scan (length (c.cells v)) (c.marked v) p) (sym in_row) (omega arith))
    (le_self (work c v)))
    (omega arith)
  where
    row_same : same_place (InRow r) (InRow r) ≡ true
    row_same = eq-eqb r r refl

    taken : takes m r (u / 64) c.place u ≡ OnStack m
    taken =
        ap (λ (b : Bool). cond b (OnStack m) (c.place u))
        (and_both (same_place (c.place u) (InRow r)) (u / 64 == u / 64) (ap (λ (p : Place). same_place p (InRow r)) at ∙ row_same)
        (eq-eqb (u / 64) (u / 64) refl))
