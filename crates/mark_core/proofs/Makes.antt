-- A lane makes a unit at a place without one.
use Rattle.std.proofs.Common.{◌≡◌, ℕ, ◌<◌, refl, sym, subst, ap, ◌∙◌, inl, inr, arith, cond, Bool, true, false, not, ◌&&◌, List, ◌⊎◌, Option, Some, None}
use Rattle.mark_core.specs.Changes.{set_at, has}
use Rattle.mark_core.specs.Machine.{Phase, Idle, Marking, Gathering, Nowhere, Sizes, Core}
use Rattle.mark_core.specs.Steps.{is_live}
use Rattle.mark_core.specs.Lawful.{Lawful, Unloaded}
use Rattle.mark_core.specs.Makes.{makes, empties}
use Rattle.mark_core.specs.Laws.{MakingIsLawful}
use Rattle.mark_core.proofs.Tools.{at_set, at_set_in, set_here, set_there, apart, grows_one, live_alive, live_marked, same_or_not}

-- a unit is in the world by its own head
pub live_same : (p : Phase) (d e m n : ℕ → Bool) (u : ℕ) → d u ≡ e u → m u ≡ n u → is_live p d m u ≡ true → is_live p e n u ≡ true
live_same Marking d e m n u s t h = subst (λ (b : Bool). not b ≡ true) s h
live_same Idle d e m n u s t h = subst (λ (b : Bool). (not (e u) && b) ≡ true) t (subst (λ (b : Bool). (not b && m u) ≡ true) s h)
live_same Gathering d e m n u s t h = subst (λ (b : Bool). (not (e u) && b) ≡ true) t (subst (λ (b : Bool). (not b && m u) ≡ true) s h)

pub gone : (ns : List ℕ) (cell : ℕ → Option ℕ) (k : ℕ) → has ns k ≡ true → empties ns cell k ≡ None
gone ns cell k e = go (has ns k) e
  where
    go : (b : Bool) → b ≡ true → cond b None (cell k) ≡ None
    go true e = refl
    go false e = absurd cc

pub still : (ns : List ℕ) (cell : ℕ → Option ℕ) (k t : ℕ) → empties ns cell k ≡ Some t → cell k ≡ Some t
still ns cell k t = go (has ns k)
  where
    go : (b : Bool) → cond b None (cell k) ≡ Some t → cell k ≡ Some t
    go true e = absurd cc
    go false e = e

pub made_lawful : (z : Sizes) (c : Core) (l u : ℕ) (n : List ℕ) → c.lane_open l ≡ true → u < z.units → c.doomed u ≡ true → Lawful z c → Lawful z (makes c l u n)
made_lawful z c l u n on lt dead h = record {
  beyond = λ v far. at_set (λ b. b ≡ true) c.doomed u false v (λ e. absurd (omega arith)) (λ o. h.beyond v far);
  scans_own = λ m s k at own.
      let alive : s.unit ≡ u → ⊥ = λ e. absurd (let under = h.standing.under m s at in let none = h.grey.doomed_is u dead in let same : c.place s.unit ≡ c.place u = ap c.place e in cc) in
      subst (λ (xs : List ℕ). has xs k ≡ true) (sym (set_there c.cells u n s.unit alive)) (h.scans_own m s k at own);
  open_in = h.open_in;
  lanes = h.lanes;
  markers = h.markers;
  held_in = λ k v off. at_set_in (λ b. b ≡ false) c.holds l u true k v (λ e f. absurd (apart c.lane_open l k on off e)) (h.held_in k v off);
  stacks_in = h.stacks_in;
  standing = h.standing;
  grey = record {
    marked_is = λ v. at_set (λ b. b ≡ false → c.place v ≡ Nowhere) c.marked u true v (λ e wrong. absurd cc) (λ o. h.grey.marked_is v);
    doomed_is = λ v. at_set (λ b. b ≡ true → c.place v ≡ Nowhere) c.doomed u false v (λ e wrong. absurd cc) (λ o. h.grey.doomed_is v);
    scanned_is =
        λ v.
        at_set (λ b. b ≡ true → (c.place v ≡ Nowhere) × (set_at c.marked u true v ≡ true)) c.scanned u false v (λ e wrong. absurd cc)
        (λ o done. let was = h.grey.scanned_is v done in (was.0, grows_one c.marked u v was.1));
  };
  black = λ m. record {
    black = λ v k t alive marked nowhere small e. black v k t m alive marked nowhere small e (same_or_not v u);
    passed = λ k s i v at own other e. grows_one c.marked u v ((h.black m).passed k s i v at (own_before s.unit i v own e) other (still n c.cell i v e));
    at_cursor = λ k s i rest t v at is found e. left_grows v t ((h.black m).at_cursor k s i rest t v at is found (still n c.cell i v e));
  };
  roots = λ m p v e. roots p v (h.roots m p v e);
  quiet = h.quiet;
  work = h.work;
  looked = h.looked;
  cells = λ v k t live own e. cells v k t live own e (same_or_not v u);
  root_set = λ p v e. let was = h.root_set p v e in (was.0, to v was.1);
  held = λ k v. at_set_in (λ b. b ≡ true → is_live c.phase (set_at c.doomed u false) (set_at c.marked u true) v ≡ true) c.holds l u true k v
      (λ e f holds. live_marked c.phase (set_at c.doomed u false) (set_at c.marked u true) v (set_here c.doomed u false v f) (set_here c.marked u true v f))
      (λ holds. to v (h.held k v holds));
  found = record { markers = λ m s t e f. to t (h.found.markers m s t e f); own = λ v e. to v (h.found.own v e) };
  idle = λ i v. at_set (λ b. b ≡ false → set_at c.doomed u false v ≡ true) c.marked u true v (λ e wrong. absurd cc) (λ o white. set_there c.doomed u false v o ∙ h.idle i v white);
}
  where
    left_grows : (v t : ℕ) → (c.marked v ≡ true) ⊎ (v ≡ t) → (set_at c.marked u true v ≡ true) ⊎ (v ≡ t)
    left_grows v t (inl e) = inl (grows_one c.marked u v e)
    left_grows v t (inr e) = inr e

    roots : (p v : ℕ) → (c.marked v ≡ true) ⊎ (Unloaded c.job p ⊎ (c.own_found v ≡ true)) → (set_at c.marked u true v ≡ true) ⊎ (Unloaded c.job p ⊎ (c.own_found v ≡ true))
    roots p v (inl e) = inl (grows_one c.marked u v e)
    roots p v (inr r) = inr r

    to : (v : ℕ) → is_live c.phase c.doomed c.marked v ≡ true → is_live c.phase (set_at c.doomed u false) (set_at c.marked u true) v ≡ true
    to v live =
        let other : v ≡ u → ⊥ = λ e. absurd (let alive = live_alive c.phase c.doomed c.marked v live in let same : c.doomed v ≡ c.doomed u = ap c.doomed e in cc) in
        live_same c.phase c.doomed (set_at c.doomed u false) c.marked (set_at c.marked u true) v (sym (set_there c.doomed u false v other)) (sym (set_there c.marked u true v other)) live

    from : (v : ℕ) → (v ≡ u → ⊥) → is_live c.phase (set_at c.doomed u false) (set_at c.marked u true) v ≡ true → is_live c.phase c.doomed c.marked v ≡ true
    from v other live = live_same c.phase (set_at c.doomed u false) c.doomed (set_at c.marked u true) c.marked v (set_there c.doomed u false v other) (set_there c.marked u true v other) live

    -- a cell that names a unit is no new one
    own_before : (v k t : ℕ) → has (set_at c.cells u n v) k ≡ true → empties n c.cell k ≡ Some t → has (c.cells v) k ≡ true
    own_before v k t own e = at_set (λ (xs : List ℕ). has xs k ≡ true → has (c.cells v) k ≡ true) c.cells u n v (λ same new. absurd (let none = gone n c.cell k new in cc)) (λ o old. old) own

    cells : (v k t : ℕ) → is_live c.phase (set_at c.doomed u false) (set_at c.marked u true) v ≡ true → has (set_at c.cells u n v) k ≡ true
        → empties n c.cell k ≡ Some t → (v ≡ u) ⊎ (v ≡ u → ⊥) → is_live c.phase (set_at c.doomed u false) (set_at c.marked u true) t ≡ true
    cells v k t live own e (inl same) = absurd (let new : has n k ≡ true = subst (λ (xs : List ℕ). has xs k ≡ true) (set_here c.cells u n v same) own in let none = gone n c.cell k new in cc)
    cells v k t live own e (inr o) = to t (h.cells v k t (from v o live) (own_before v k t own e) (still n c.cell k t e))

    black : (v k t : ℕ) → c.phase ≡ Marking → set_at c.doomed u false v ≡ false → set_at c.marked u true v ≡ true → c.place v ≡ Nowhere
        → has (set_at c.cells u n v) k ≡ true → empties n c.cell k ≡ Some t → (v ≡ u) ⊎ (v ≡ u → ⊥) → set_at c.marked u true t ≡ true
    black v k t m alive marked nowhere own e (inl same) =
        absurd
        (let new : has n k ≡ true = subst (λ (xs : List ℕ). has xs k ≡ true) (set_here c.cells u n v same) own in
        let none = gone n c.cell k new in
        cc)
    black v k t m alive marked nowhere own e (inr o) =
        grows_one c.marked u t
        ((h.black m).black v k t (sym (set_there c.doomed u false v o) ∙ alive) (sym (set_there c.marked u true v o) ∙ marked) nowhere
        (own_before v k t own e) (still n c.cell k t e))

-- all that making a unit does
pub made : MakingIsLawful
made z c l u n on lt dead h = record {
  lawful = made_lawful z c l u n on lt dead h;
  no_root = λ p e. not_live (h.root_set p u e).1;
  no_cell = λ v k live own e. not_live (h.cells v k u live own e);
  empty = λ k own. gone n c.cell k own;
  others = λ fresh v k alive own. (
    ap (λ (b : Bool). cond b None (c.cell k)) (fresh v k alive own),
    subst (λ (xs : List ℕ). has xs k ≡ true) (sym (set_there c.cells u n v (λ e. absurd (let same : c.doomed v ≡ c.doomed u = ap c.doomed e in cc)))) own,
  );
}
  where
    not_live : is_live c.phase c.doomed c.marked u ≡ true → ⊥
    not_live live = absurd (let alive = live_alive c.phase c.doomed c.marked u live in cc)
