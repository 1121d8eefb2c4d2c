-- A marker scans a unit.
use Rattle.std.proofs.Common.{◌≡◌, ℕ, ◌≤◌, ◌==◌, ◌||◌, refl, sym, subst, ap, ◌∙◌, inl, inr, Bool, true, false, List, [], ◌∷◌, ◌⊎◌, Option, Some, None}
use Rattle.std.proofs.lemmas.Bool.{eqb-true}
use Rattle.mark_core.specs.Changes.{set_at, has}
use Rattle.mark_core.specs.Machine.{Marking, Place, Nowhere, InRow, OnStack, UnderScan, InHand, InCollector, Scan, Sizes, Core}
use Rattle.mark_core.specs.Steps.{is_live, behind, leaves, goes_on, moves_on, finds, starts}
use Rattle.mark_core.specs.Lawful.{Lawful}
use Rattle.mark_core.proofs.Tools.{at_set, set_here, set_there, same_or_not, not_false, or_right, true_or_false, some_same, live_marking, apart}
use Rattle.mark_core.proofs.Shades.{looked_fewer}
use Rattle.mark_core.proofs.Rows.{moved, grey_regrouped}

under_of : (l k : ℕ) → UnderScan l ≡ UnderScan k → k ≡ l
under_of l k e = cc

-- a scan that was left with its unit: the other scans stay
pub record Leaves (scan next : ℕ → Option Scan) (u : ℕ) : Type 0 where
  pub was : (m : ℕ) (s : Scan) → next m ≡ Some s → (scan m ≡ Some s) × (s.unit ≡ u → ⊥)
  pub stays : (m : ℕ) (s : Scan) → scan m ≡ Some s → (s.unit ≡ u → ⊥) → next m ≡ Some s
  pub none : (m : ℕ) → scan m ≡ None → next m ≡ None

-- a grey unit that is in no hand
pub record InScans (place : ℕ → Place) (u : ℕ) : Type 0 where
  pub grey_u : place u ≡ Nowhere → ⊥
  pub hand : (l : ℕ) → place u ≡ InHand l → ⊥
  pub own : place u ≡ InCollector → ⊥

-- A grey unit all of whose cells point to marked ones is scanned
pub left : (z : Sizes) (c : Core) (u : ℕ) (scan : ℕ → Option Scan) → c.phase ≡ Marking → InScans c.place u
    → ((k v : ℕ) → has (c.cells u) k ≡ true → c.cell k ≡ Some v → c.marked v ≡ true) → Leaves c.scan scan u
    → Lawful z c → Lawful z (record (leaves c u) { scan = scan })
left z c u scan marking at settled other h = record {
  beyond = h.beyond;
  scans_own = λ m s k e. h.scans_own m s k (other.was m s e).0;
  open_in = h.open_in;
  lanes = h.lanes;
  markers = record { scan_is = λ m off. other.none m (h.markers.scan_is m off); owes_is = h.markers.owes_is };
  held_in = h.held_in;
  stacks_in = λ k v off. at_set (λ x. x ≡ OnStack k → ⊥) c.place u Nowhere v (λ e on. absurd cc) (λ n. h.stacks_in k v off);
  standing = record {
    rows = λ v r. at_set (λ x. x ≡ InRow r → r ≤ z.markers) c.place u Nowhere v (λ e wrong. absurd cc) (λ n. h.standing.rows v r);
    hands = λ v k. at_set (λ x. x ≡ InHand k → c.hand k ≡ Some v) c.place u Nowhere v (λ e wrong. absurd cc) (λ n. h.standing.hands v k);
    own = λ v. at_set (λ x. x ≡ InCollector → c.own_hand ≡ Some v) c.place u Nowhere v (λ e wrong. absurd cc) (λ n. h.standing.own v);
    in_hand = λ k v hand. at_set (λ x. x ≡ InHand k) c.place u Nowhere v (λ e. absurd (at.hand k (ap c.place (sym e) ∙ h.standing.in_hand k v hand))) (λ n. h.standing.in_hand k v hand);
    in_own = λ v hand. at_set (λ x. x ≡ InCollector) c.place u Nowhere v (λ e. absurd (at.own (ap c.place (sym e) ∙ h.standing.in_own v hand))) (λ n. h.standing.in_own v hand);
    scans =
        λ v k.
        at_set (λ x. x ≡ UnderScan k → (s : Scan) × (scan k ≡ Some s) × (s.unit ≡ v)) c.place u Nowhere v (λ e wrong. absurd cc)
        (λ n at. let was = h.standing.scans v k at in (was.0, other.stays k was.0 was.1 (λ e. n (sym was.2 ∙ e)), was.2));
    under = λ k s e. let was = other.was k s e in at_set (λ x. x ≡ UnderScan k) c.place u Nowhere s.unit (λ same. absurd (was.1 same)) (λ n. h.standing.under k s was.0);
  };
  grey = record {
    marked_is = λ v off. at_set (λ x. x ≡ Nowhere) c.place u Nowhere v (λ e. refl) (λ n. h.grey.marked_is v off);
    doomed_is = λ v off. at_set (λ x. x ≡ Nowhere) c.place u Nowhere v (λ e. refl) (λ n. h.grey.doomed_is v off);
    scanned_is = λ v. at_set (λ x. x ≡ true → (set_at c.place u Nowhere v ≡ Nowhere) × (c.marked v ≡ true)) c.scanned u true v
        (λ e done. (set_here c.place u Nowhere v e, ap c.marked e ∙ not_false (c.marked u) (λ off. at.grey_u (h.grey.marked_is u off))))
        (λ n done. let was = h.grey.scanned_is v done in (set_there c.place u Nowhere v n ∙ was.0, was.1));
  };
  black = λ m. record {
    black = λ v k t alive marked nowhere lt e. at_set (λ x. x ≡ Nowhere → c.marked t ≡ true) c.place u Nowhere v
        (λ same here. settled k t (subst (λ (y : ℕ). has (c.cells y) k ≡ true) same lt) e)
        (λ n at_none. (h.black m).black v k t alive marked at_none lt e) nowhere;
    passed = λ k s i v e own settled_i f. (h.black m).passed k s i v (other.was k s e).0 own settled_i f;
    at_cursor = λ k s i rest t v e is f g. (h.black m).at_cursor k s i rest t v (other.was k s e).0 is f g;
  };
  roots = h.roots;
  quiet = λ out. absurd (out marking);
  work = h.work;
  looked =
      looked_fewer c.job c.dirty c.lane_owes c.marker_owes c.place (set_at c.place u Nowhere)
      (λ v r. at_set (λ x. x ≡ InRow r → c.place v ≡ InRow r) c.place u Nowhere v (λ e wrong. absurd cc) (λ n e. e)) h.looked;
  cells = h.cells;
  root_set = h.root_set;
  held = h.held;
  found = record { markers = λ m s t e f. h.found.markers m s t (other.was m s e).0 f; own = h.found.own };
  idle = h.idle;
}

-- the scan of a marker goes on at another cell, or with another find
pub rescanned : (z : Sizes) (c : Core) (m : ℕ) (s t : Scan) → c.scan m ≡ Some s → s.unit ≡ t.unit → c.phase ≡ Marking
    → ((i v : ℕ) → has (c.cells t.unit) i ≡ true → has t.left i ≡ false → c.cell i ≡ Some v → c.marked v ≡ true)
    → ((i : ℕ) (rest : List ℕ) (f v : ℕ) → t.left ≡ i ∷ rest → t.found ≡ Some f → c.cell i ≡ Some v → (c.marked v ≡ true) ⊎ (v ≡ f))
    → ((f : ℕ) → t.found ≡ Some f → is_live c.phase c.doomed c.marked f ≡ true)
    → ((i : ℕ) → has t.left i ≡ true → has (c.cells t.unit) i ≡ true)
    → Lawful z c → Lawful z (record c { scan = set_at c.scan m (Some t) })
rescanned z c m s t at same marking passed cursor live own_left h = record {
  beyond = h.beyond;
  scans_own = λ k q i. at_set (λ x. x ≡ Some q → has q.left i ≡ true → has (c.cells q.unit) i ≡ true) c.scan m (Some t) k
      (λ e now. let is : t ≡ q = some_scan t q now in subst (λ (x : Scan). has x.left i ≡ true → has (c.cells x.unit) i ≡ true) is (own_left i))
      (λ n was. h.scans_own k q i was);
  open_in = h.open_in;
  lanes = h.lanes;
  markers = record {
    scan_is =
        λ k off.
        at_set (λ x. x ≡ None) c.scan m (Some t) k
        (λ e. absurd (let none = h.markers.scan_is k off in let there : c.scan k ≡ c.scan m = ap c.scan e in cc)) (λ n. h.markers.scan_is k off);
    owes_is = h.markers.owes_is;
  };
  held_in = h.held_in;
  stacks_in = h.stacks_in;
  standing = record {
    rows = h.standing.rows;
    hands = h.standing.hands;
    own = h.standing.own;
    in_hand = h.standing.in_hand;
    in_own = h.standing.in_own;
    scans = λ v k e. let was = h.standing.scans v k e in go v k was;
    under = λ k q. at_set (λ x. x ≡ Some q → c.place q.unit ≡ UnderScan k) c.scan m (Some t) k
        (λ e now. let is : t ≡ q = some_scan t q now in ap (λ (x : Scan). c.place x.unit) (sym is) ∙ (ap c.place (sym same) ∙ (h.standing.under m s at ∙ ap UnderScan (sym e))))
        (λ n was. h.standing.under k q was);
  };
  grey = h.grey;
  black = λ mm. record {
    black = (h.black mm).black;
    passed = λ k q i v e own other f. at_set (λ x. x ≡ Some q → c.marked v ≡ true) c.scan m (Some t) k
        (λ e2 now. let is : t ≡ q = some_scan t q now in passed i v (subst (λ (x : Scan). has (c.cells x.unit) i ≡ true) (sym is) own) (subst (λ (x : Scan). has x.left i ≡ false) (sym is) other) f)
        (λ n was. (h.black mm).passed k q i v was own other f) e;
    at_cursor = λ k q i rest f v e at_i g cell. at_set (λ x. x ≡ Some q → (c.marked v ≡ true) ⊎ (v ≡ f)) c.scan m (Some t) k
        (λ e2 now. let is : t ≡ q = some_scan t q now in cursor i rest f v (subst (λ (x : Scan). x.left ≡ i ∷ rest) (sym is) at_i) (subst (λ (x : Scan). x.found ≡ Some f) (sym is) g) cell)
        (λ n was. (h.black mm).at_cursor k q i rest f v was at_i g cell) e;
  };
  roots = h.roots;
  quiet = h.quiet;
  work = h.work;
  looked = h.looked;
  cells = h.cells;
  root_set = h.root_set;
  held = h.held;
  found = record {
    markers = λ k q f e g. at_set (λ x. x ≡ Some q → is_live c.phase c.doomed c.marked f ≡ true) c.scan m (Some t) k
        (λ e2 now. let is : t ≡ q = some_scan t q now in live f (subst (λ (x : Scan). x.found ≡ Some f) (sym is) g))
        (λ n was. h.found.markers k q f was g) e;
    own = h.found.own;
  };
  idle = h.idle;
}
  where
    some_scan : (a b : Scan) → Some a ≡ Some b → a ≡ b
    some_scan a b e = some_same {A = Scan} a b e

    go : (v k : ℕ) → ((q : Scan) × (c.scan k ≡ Some q) × (q.unit ≡ v)) → (q : Scan) × (set_at c.scan m (Some t) k ≡ Some q) × (q.unit ≡ v)
    go v k was = pick (same_or_not k m)
      where
        pick : (k ≡ m) ⊎ (k ≡ m → ⊥) → (q : Scan) × (set_at c.scan m (Some t) k ≡ Some q) × (q.unit ≡ v)
        pick (inl e) = (t, set_here c.scan m (Some t) k e, sym same ∙ (ap (λ (x : Scan). x.unit) (some_same {A = Scan} s was.0 (sym at ∙ (ap c.scan (sym e) ∙ was.1))) ∙ was.2))
        pick (inr n) = (was.0, set_there c.scan m (Some t) k n ∙ was.1, was.2)

-- who scans is open
pub scans_open : (z : Sizes) (c : Core) (m : ℕ) (s : Scan) → c.scan m ≡ Some s → Lawful z c → c.marker_open m ≡ true
scans_open z c m s at h = not_false (c.marker_open m) (λ off. absurd (let none = h.markers.scan_is m off in cc))

-- a cell that is not behind the first is the first, or not left
not_behind : (ns : List ℕ) (i : ℕ) → has (behind ns) i ≡ false → (has ns i ≡ false) ⊎ ((rest : List ℕ) × (ns ≡ i ∷ rest))
not_behind [] i e = inl refl
not_behind (n ∷ rest) i e = go (i == n) refl
  where
    go : (b : Bool) → (i == n) ≡ b → ((b || has rest i) ≡ false) ⊎ ((more : List ℕ) × (n ∷ rest ≡ i ∷ more))
    go true is = inr (rest, ap (λ (x : ℕ). x ∷ rest) (sym (eqb-true i n is)))
    go false is = inl e

behind_has : (ns : List ℕ) (i : ℕ) → has (behind ns) i ≡ true → has ns i ≡ true
behind_has [] i e = e
behind_has (n ∷ rest) i e = or_right (i == n) (has rest i) e

-- The first of the cells that are left is settled: the scan goes on, or ends
pub went_on : (z : Sizes) (c : Core) (m : ℕ) (s : Scan) → c.scan m ≡ Some s → c.phase ≡ Marking
    → ((i v : ℕ) (rest : List ℕ) → s.left ≡ i ∷ rest → c.cell i ≡ Some v → c.marked v ≡ true) → Lawful z c → Lawful z (goes_on c m s (behind s.left))
went_on z c m s at marking settled h = go (behind s.left) before (λ i more. h.scans_own m s i at (behind_has s.left i more))
  where
    before : (i v : ℕ) → has (c.cells s.unit) i ≡ true → has (behind s.left) i ≡ false → c.cell i ≡ Some v → c.marked v ≡ true
    before i v own off e = pick (not_behind s.left i off)
      where
        pick : (has s.left i ≡ false) ⊎ ((rest : List ℕ) × (s.left ≡ i ∷ rest)) → c.marked v ≡ true
        pick (inl other) = (h.black marking).passed m s i v at own other e
        pick (inr first) = settled i v first.0 first.1 e

    under_scan : c.place s.unit ≡ UnderScan m → InScans c.place s.unit
    under_scan under = record { grey_u = λ none. absurd cc; hand = λ l hand. absurd cc; own = λ hand. absurd cc }

    leaving : Leaves c.scan (set_at c.scan m None) s.unit
    leaving = record {
      was = λ k q. at_set (λ x. x ≡ Some q → (c.scan k ≡ Some q) × (q.unit ≡ s.unit → ⊥)) c.scan m None k (λ e wrong. absurd cc)
          (λ n was. (was, λ same. n (under_of m k (sym (h.standing.under m s at) ∙ (ap c.place (sym same) ∙ h.standing.under k q was)))));
      stays = λ k q was other. at_set (λ x. x ≡ Some q) c.scan m None k (λ e. absurd (other (ap (λ (x : Scan). x.unit) (some_same {A = Scan} q s (sym was ∙ (ap c.scan e ∙ at)))))) (λ n. was);
      none = λ k was. at_set (λ x. x ≡ None) c.scan m None k (λ e. refl) (λ n. was);
    }

    go : (ns : List ℕ) → ((i v : ℕ) → has (c.cells s.unit) i ≡ true → has ns i ≡ false → c.cell i ≡ Some v → c.marked v ≡ true)
        → ((i : ℕ) → has ns i ≡ true → has (c.cells s.unit) i ≡ true) → Lawful z (goes_on c m s ns)
    go [] all own_left = left z c s.unit (set_at c.scan m None) marking (under_scan (h.standing.under m s at)) (λ k v own cell. all k v own refl cell) leaving h
    go (n ∷ rest) all own_left = rescanned z c m s (record { unit = s.unit; left = n ∷ rest; found = None }) at refl marking all (λ i more f v is wrong. absurd cc) (λ f wrong. absurd cc) own_left h

head_same : (a b : ℕ) (xs ys : List ℕ) → a ∷ xs ≡ b ∷ ys → b ≡ a
head_same a b xs ys e = cc

-- a marker loads the first cell that is left
pub found_cell : (z : Sizes) (c : Core) (m u k : ℕ) (rest : List ℕ) (got : Option ℕ)
    → c.scan m ≡ Some (record { unit = u; left = k ∷ rest; found = None }) → has (c.cells u) k ≡ true → c.cell k ≡ got → c.phase ≡ Marking
    → Lawful z c → Lawful z (finds c m (c.scan m) got)
found_cell z c m u k rest None at own is marking h =
    subst (λ (o : Option Scan). Lawful z (moves_on c m o)) (sym at)
    (went_on z c m (record { unit = u; left = k ∷ rest; found = None }) at marking
    (λ i v more same e. absurd (let there : c.cell i ≡ c.cell k = ap c.cell (head_same k i rest more same) in cc)) h)
found_cell z c m u k rest (Some t) at own is marking h =
    let at_u : c.place u ≡ UnderScan m = h.standing.under m (record { unit = u; left = k ∷ rest; found = None }) at in
    let alive : c.doomed u ≡ false = not_doomed at_u in
    subst (λ (o : Option Scan). Lawful z (finds c m o (Some t))) (sym at)
    (rescanned z c m (record { unit = u; left = k ∷ rest; found = None }) (record { unit = u; left = k ∷ rest; found = Some t }) at refl marking
    (λ i v own_i other e. (h.black marking).passed m (record { unit = u; left = k ∷ rest; found = None }) i v at own_i other e)
    (λ i more f v same found e. inr (some_same v f (sym e ∙ (ap c.cell (head_same k i rest more same) ∙ (is ∙ found)))))
    (λ f found. h.cells u k f (live_marking c.phase c.doomed c.marked u marking alive) own (is ∙ found))
    (λ i. h.scans_own m (record { unit = u; left = k ∷ rest; found = None }) i at)
    h)
  where
    not_doomed : c.place u ≡ UnderScan m → c.doomed u ≡ false
    not_doomed at_u = pick (true_or_false (c.doomed u))
      where
        pick : (c.doomed u ≡ true) ⊎ (c.doomed u ≡ false) → c.doomed u ≡ false
        pick (inl dead) = absurd (let none = h.grey.doomed_is u dead in cc)
        pick (inr e) = e

-- a grey unit is neither doomed nor scanned
pub grey_alive : (z : Sizes) (c : Core) (u : ℕ) → (c.place u ≡ Nowhere → ⊥) → Lawful z c → c.doomed u ≡ false
grey_alive z c u grey_u h = pick (true_or_false (c.doomed u))
  where
    pick : (c.doomed u ≡ true) ⊎ (c.doomed u ≡ false) → c.doomed u ≡ false
    pick (inl dead) = absurd (grey_u (h.grey.doomed_is u dead))
    pick (inr e) = e

-- what was found is marked: the cell at the cursor is settled
pub found_settled : (z : Sizes) (c : Core) (m t : ℕ) (s : Scan) → c.scan m ≡ Some s → s.found ≡ Some t → c.phase ≡ Marking → c.marked t ≡ true → Lawful z c → Lawful z (goes_on c m s (behind s.left))
found_settled z c m t s at found marking on h = went_on z c m s at marking (λ i v rest is e. pick v ((h.black marking).at_cursor m s i rest t v at is found e)) h
  where
    pick : (v : ℕ) → (c.marked v ≡ true) ⊎ (v ≡ t) → c.marked v ≡ true
    pick v (inl e) = e
    pick v (inr e) = ap c.marked e ∙ on

-- a unit goes from the stack under the scan
on_scan : (z : Sizes) (c : Core) (m u : ℕ) (ns : List ℕ) → c.cells u ≡ ns → c.scan m ≡ None → c.place u ≡ OnStack m → c.phase ≡ Marking → c.marker_open m ≡ true → Lawful z c
    → Lawful z (record c { place = set_at c.place u (UnderScan m); scan = set_at c.scan m (Some (record { unit = u; left = ns; found = None })) })
on_scan z c m u ns all none at marking opened h =
    let same = moved c.place u (UnderScan m) (λ e. absurd cc) (λ e. absurd cc) in
    record {
      beyond = h.beyond;
      scans_own = λ k q i. at_set (λ x. x ≡ Some q → has q.left i ≡ true → has (c.cells q.unit) i ≡ true) c.scan m (Some (record { unit = u; left = ns; found = None })) k
          (λ e now. let is : record { unit = u; left = ns; found = None } ≡ q =
          some_same {A = Scan} (record { unit = u; left = ns; found = None }) q now in
          subst (λ (x : Scan). has x.left i ≡ true → has (c.cells x.unit) i ≡ true) is
          (λ on. subst (λ (xs : List ℕ). has xs i ≡ true) (sym all) on))
          (λ n was. h.scans_own k q i was);
      open_in = h.open_in;
      lanes = h.lanes;
      markers = record {
        scan_is = λ k off. at_set (λ x. x ≡ None) c.scan m (Some (record { unit = u; left = ns; found = None })) k (λ e. absurd (apart c.marker_open m k opened off e)) (λ n. h.markers.scan_is k off);
        owes_is = h.markers.owes_is;
      };
      held_in = h.held_in;
      stacks_in = λ k v off. at_set (λ x. x ≡ OnStack k → ⊥) c.place u (UnderScan m) v (λ e on. absurd cc) (λ n. h.stacks_in k v off);
      standing = record {
        rows = λ v r. at_set (λ x. x ≡ InRow r → r ≤ z.markers) c.place u (UnderScan m) v (λ e wrong. absurd cc) (λ n. h.standing.rows v r);
        hands = λ v k. at_set (λ x. x ≡ InHand k → c.hand k ≡ Some v) c.place u (UnderScan m) v (λ e wrong. absurd cc) (λ n. h.standing.hands v k);
        own = λ v. at_set (λ x. x ≡ InCollector → c.own_hand ≡ Some v) c.place u (UnderScan m) v (λ e wrong. absurd cc) (λ n. h.standing.own v);
        in_hand =
            λ k v hand.
            at_set (λ x. x ≡ InHand k) c.place u (UnderScan m) v
            (λ e. absurd (let was = h.standing.in_hand k v hand in let there : c.place v ≡ c.place u = ap c.place e in cc))
            (λ n. h.standing.in_hand k v hand);
        in_own =
            λ v hand.
            at_set (λ x. x ≡ InCollector) c.place u (UnderScan m) v
            (λ e. absurd (let was = h.standing.in_own v hand in let there : c.place v ≡ c.place u = ap c.place e in cc))
            (λ n. h.standing.in_own v hand);
        scans = λ v k. at_set (λ x. x ≡ UnderScan k → (s : Scan) × (set_at c.scan m (Some (record { unit = u; left = ns; found = None })) k ≡ Some s) × (s.unit ≡ v)) c.place u (UnderScan m) v
            (λ e here. (record { unit = u; left = ns; found = None }, set_here c.scan m (Some (record { unit = u; left = ns; found = None })) k (under_of m k here), sym e))
            (λ n there. let was = h.standing.scans v k there in (
              was.0,
              set_there c.scan m (Some (record { unit = u; left = ns; found = None })) k
                  (λ e. absurd (let some = was.1 in let same_scan : c.scan k ≡ c.scan m = ap c.scan e in cc)) ∙ was.1,
              was.2,
            ));
        under = λ k q. at_set (λ x. x ≡ Some q → set_at c.place u (UnderScan m) q.unit ≡ UnderScan k) c.scan m (Some (record { unit = u; left = ns; found = None })) k
            (λ e now. let is : record { unit = u; left = ns; found = None } ≡ q =
            some_same {A = Scan} (record { unit = u; left = ns; found = None }) q now in
            set_here c.place u (UnderScan m) q.unit (ap (λ (x : Scan). x.unit) (sym is)) ∙ ap UnderScan (sym e))
            (λ n was.
            at_set (λ x. x ≡ UnderScan k) c.place u (UnderScan m) q.unit
            (λ e. absurd (let under = h.standing.under k q was in let there : c.place q.unit ≡ c.place u = ap c.place e in cc))
            (λ o. h.standing.under k q was));
      };
      grey = grey_regrouped c.doomed c.marked c.scanned c.place (set_at c.place u (UnderScan m)) same h.grey;
      black = λ mm. record {
        black = λ v k t alive marked nowhere lt e. (h.black mm).black v k t alive marked (same.from v nowhere) lt e;
        passed = λ k q i v e own other f. at_set (λ x. x ≡ Some q → c.marked v ≡ true) c.scan m (Some (record { unit = u; left = ns; found = None })) k
            (λ e2 now.
            let is : record { unit = u; left = ns; found = None } ≡ q = some_same {A = Scan} (record { unit = u; left = ns; found = None }) q now in
            let own_u : has (c.cells u) i ≡ true = subst (λ (x : Scan). has (c.cells x.unit) i ≡ true) (sym is) own in
            let off : has ns i ≡ false = subst (λ (x : Scan). has x.left i ≡ false) (sym is) other in
            let on : has ns i ≡ true = subst (λ (xs : List ℕ). has xs i ≡ true) all own_u in absurd cc)
            (λ n was. (h.black mm).passed k q i v was own other f) e;
        at_cursor = λ k q i rest f v e at_i g cell. at_set (λ x. x ≡ Some q → (c.marked v ≡ true) ⊎ (v ≡ f)) c.scan m (Some (record { unit = u; left = ns; found = None })) k
            (λ e2 now. let nothing : None ≡ q.found = ap (λ (x : Scan). x.found) (some_same {A = Scan} (record { unit = u; left = ns; found = None }) q now) in absurd cc)
            (λ n was. (h.black mm).at_cursor k q i rest f v was at_i g cell) e;
      };
      roots = h.roots;
      quiet = λ out. absurd (out marking);
      work = h.work;
      looked =
          looked_fewer c.job c.dirty c.lane_owes c.marker_owes c.place (set_at c.place u (UnderScan m))
          (λ v r. at_set (λ x. x ≡ InRow r → c.place v ≡ InRow r) c.place u (UnderScan m) v (λ e wrong. absurd cc) (λ n e. e)) h.looked;
      cells = h.cells;
      root_set = h.root_set;
      held = h.held;
      found = record {
        markers = λ k q f e g. at_set (λ x. x ≡ Some q → is_live c.phase c.doomed c.marked f ≡ true) c.scan m (Some (record { unit = u; left = ns; found = None })) k
            (λ e2 now. let nothing : None ≡ q.found = ap (λ (x : Scan). x.found) (some_same {A = Scan} (record { unit = u; left = ns; found = None }) q now) in absurd cc)
            (λ n was. h.found.markers k q f was g) e;
        own = h.found.own;
      };
      idle = h.idle;
    }

-- a marker starts the scan of a unit of its stack
pub started : (z : Sizes) (c : Core) (m u : ℕ) → c.scan m ≡ None → c.place u ≡ OnStack m → c.phase ≡ Marking → Lawful z c → Lawful z (starts c m u (c.cells u))
started z c m u none at marking h = go (c.cells u) refl
  where
    opened : c.marker_open m ≡ true
    opened = not_false (c.marker_open m) (λ off. h.stacks_in m u off at)

    go : (ns : List ℕ) → c.cells u ≡ ns → Lawful z (starts c m u ns)
    go [] e =
        left z c u c.scan marking (record { grey_u = λ none. absurd cc; hand = λ l hand. absurd cc; own = λ hand. absurd cc })
        (λ k v own cell. absurd (let nothing : has [] k ≡ true = subst (λ (xs : List ℕ). has xs k ≡ true) e own in cc))
        (record {
          was = λ k s e. (e, λ same. absurd (let under = h.standing.under k s e in let there : c.place s.unit ≡ c.place u = ap c.place same in cc));
          stays = λ k s e n. e;
          none = λ k e. e;
        }) h
    go (n ∷ rest) e = on_scan z c m u (n ∷ rest) e none at marking opened h
