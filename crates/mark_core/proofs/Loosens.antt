-- Outside of a marking a member of a unit becomes a unit by itself.
use Rattle.std.proofs.Common.{◌≡◌, ℕ, ◌<◌, refl, sym, subst, ap, ◌∙◌, inl, inr, arith, Bool, cond, true, false, ◌&&◌, ◌||◌, ◌==◌, List, [], ◌∷◌, ◌++◌, ◌⊎◌, Option, Some, None}
use Rattle.std.proofs.lemmas.Bool.{eqb-true}
use Rattle.mark_core.specs.Changes.{set_at, has}
use Rattle.mark_core.specs.Machine.{Marking, Nowhere, Sizes, root_places, Core}
use Rattle.mark_core.specs.Steps.{is_live, is_found}
use Rattle.mark_core.specs.Lawful.{Lawful}
use Rattle.mark_core.specs.Makes.{renames}
use Rattle.mark_core.specs.Laws.{LooseningIsLawful}
use Rattle.mark_core.proofs.Tools.{at_set, set_here, set_there, grows_one, live_alive, live_marked, same_or_not, or_left, or_right, or_either, some_same}
use Rattle.mark_core.proofs.Makes.{live_same}

-- the place v, so far without a unit, gets a marked one, and cells, root set and held units are what is given
abbrev rewires : Core → ℕ → (ℕ → List ℕ) → (ℕ → Option ℕ) → (ℕ → Option ℕ) → (ℕ → ℕ → Bool) → Core
rewires c v cells cell root holds =
    record c {
      doomed = set_at c.doomed v false;
      marked = set_at c.marked v true;
      cells = cells;
      cell = cell;
      root = root;
      scanned = set_at c.scanned v false;
      holds = holds;
    }

-- each new reference is an old one to a unit in the world, or names the new unit; closed lanes hold nothing
record Rewires (z : Sizes) (c : Core) (v : ℕ) (cells : ℕ → List ℕ) (cell : ℕ → Option ℕ) (root : ℕ → Option ℕ) (holds : ℕ → ℕ → Bool) : Type 0 where
  to_live : (u k t : ℕ) → has (cells u) k ≡ true → cell k ≡ Some t → (u ≡ v) ⊎ (is_live c.phase c.doomed c.marked u ≡ true) → (t ≡ v) ⊎ (is_live c.phase c.doomed c.marked t ≡ true)
  roots : (p t : ℕ) → root p ≡ Some t → (p < root_places z) × ((t ≡ v) ⊎ (is_live c.phase c.doomed c.marked t ≡ true))
  held : (l t : ℕ) → holds l t ≡ true → (t ≡ v) ⊎ (is_live c.phase c.doomed c.marked t ≡ true)
  held_in : (l t : ℕ) → c.lane_open l ≡ false → holds l t ≡ false

rewired : (z : Sizes) (c : Core) (v : ℕ) (cells : ℕ → List ℕ) (cell : ℕ → Option ℕ) (root : ℕ → Option ℕ) (holds : ℕ → ℕ → Bool)
    → (c.phase ≡ Marking → ⊥) → v < z.units → c.doomed v ≡ true → Rewires z c v cells cell root holds
    → Lawful z c → Lawful z (rewires c v cells cell root holds)
rewired z c v cells cell root holds out lt dead new h = record {
  beyond = λ u far. at_set (λ b. b ≡ true) c.doomed v false u (λ e. absurd (omega arith)) (λ o. h.beyond u far);
  scans_own = λ m s k at. absurd (let none = (h.quiet out).places s.unit in let under = h.standing.under m s at in cc);
  open_in = h.open_in;
  lanes = h.lanes;
  markers = h.markers;
  held_in = new.held_in;
  stacks_in = h.stacks_in;
  standing = h.standing;
  grey = record {
    marked_is = λ u off. (h.quiet out).places u;
    doomed_is = λ u off. (h.quiet out).places u;
    scanned_is =
        λ u.
        at_set (λ b. b ≡ true → (c.place u ≡ Nowhere) × (set_at c.marked v true u ≡ true)) c.scanned v false u (λ e wrong. absurd cc)
        (λ o done. let was = h.grey.scanned_is u done in (was.0, grows_one c.marked v u was.1));
  };
  black = λ m. absurd (out m);
  roots = λ m. absurd (out m);
  quiet = h.quiet;
  work = h.work;
  looked = h.looked;
  cells = λ u k t live small e. now t (new.to_live u k t small e (before u live));
  root_set = λ p t e. let is = new.roots p t e in (is.0, now t is.1);
  held = λ l t e. now t (new.held l t e);
  found = record { markers = λ m s t e f. now t (inr (h.found.markers m s t e f)); own = λ u e. now u (inr (h.found.own u e)) };
  idle = λ i u. at_set (λ b. b ≡ false → set_at c.doomed v false u ≡ true) c.marked v true u (λ e wrong. absurd cc) (λ o white. set_there c.doomed v false u o ∙ h.idle i u white);
}
  where
    now : (t : ℕ) → (t ≡ v) ⊎ (is_live c.phase c.doomed c.marked t ≡ true) → is_live c.phase (set_at c.doomed v false) (set_at c.marked v true) t ≡ true
    now t (inl e) = live_marked c.phase (set_at c.doomed v false) (set_at c.marked v true) t (set_here c.doomed v false t e) (set_here c.marked v true t e)
    now t (inr live) =
        let other : t ≡ v → ⊥ = λ e. absurd (let alive = live_alive c.phase c.doomed c.marked t live in let same : c.doomed t ≡ c.doomed v = ap c.doomed e in cc) in
        live_same c.phase c.doomed (set_at c.doomed v false) c.marked (set_at c.marked v true) t (sym (set_there c.doomed v false t other)) (sym (set_there c.marked v true t other)) live

    before : (u : ℕ) → is_live c.phase (set_at c.doomed v false) (set_at c.marked v true) u ≡ true → (u ≡ v) ⊎ (is_live c.phase c.doomed c.marked u ≡ true)
    before u live = pick (same_or_not u v)
      where
        pick : (u ≡ v) ⊎ (u ≡ v → ⊥) → (u ≡ v) ⊎ (is_live c.phase c.doomed c.marked u ≡ true)
        pick (inl e) = inl e
        pick (inr o) = inr (live_same c.phase (set_at c.doomed v false) c.doomed (set_at c.marked v true) c.marked u (set_there c.doomed v false u o) (set_there c.marked v true u o) live)

has-append : (xs ys : List ℕ) (k : ℕ) → (has xs k ≡ true) ⊎ (has ys k ≡ true) → has (xs ++ ys) k ≡ true
has-append [] ys k (inl h) = absurd cc
has-append [] ys k (inr h) = h
has-append (x ∷ xs) ys k (inl h) = go (or_either (k == x) (has xs k) h) (λ e. has-append xs ys k (inl e))
  where
    go : ((k == x) ≡ true) ⊎ (has xs k ≡ true) → (has xs k ≡ true → has (xs ++ ys) k ≡ true) → has (x ∷ (xs ++ ys)) k ≡ true
    go (inl e) on = or_left (k == x) (has (xs ++ ys) k) e
    go (inr e) on = or_right (k == x) (has (xs ++ ys) k) (on e)
has-append (x ∷ xs) ys k (inr h) = or_right (k == x) (has (xs ++ ys) k) (has-append xs ys k (inr h))

-- what is named after a renaming is the new unit, or was named before
renamed : (at : ℕ → Bool) (u v : ℕ) (names : ℕ → Option ℕ) (n t : ℕ) → renames at u v names n ≡ Some t → (t ≡ v) ⊎ (names n ≡ Some t)
renamed at u v names n t = go (at n && is_found (names n) u)
  where
    go : (b : Bool) → cond b (Some v) (names n) ≡ Some t → (t ≡ v) ⊎ (names n ≡ Some t)
    go true e = inl (sym (some_same v t e))
    go false e = inr e

-- a renamed place named the unit
renamed_was : (at : ℕ → Bool) (u v : ℕ) (names : ℕ → Option ℕ) (n t : ℕ) → renames at u v names n ≡ Some t → (w : ℕ) × (names n ≡ Some w)
renamed_was at u v names n t = go (names n) refl (at n)
  where
    go : (o : Option ℕ) → names n ≡ o → (a : Bool) → cond (a && is_found o u) (Some v) o ≡ Some t → (w : ℕ) × (names n ≡ Some w)
    go None is true e = absurd cc
    go None is false e = absurd cc
    go (Some w) is a e = (w, is)

pub loosened : LooseningIsLawful
loosened z c u v own left bit by_cell by_strong may h =
    rewired z c v (set_at (set_at c.cells u left) v own) (renames by_cell u v c.cell) (renames (λ p. (p == bit) || by_strong p) u v c.root)
    (λ lane t. c.holds lane (cond (t == v) u t)) may.outside may.place may.free
    (record {
      to_live = λ w k t has_k e world. to_live w k t has_k world (renamed by_cell u v c.cell k t e);
      roots = λ p t e. (let was = renamed_was (λ q. (q == bit) || by_strong q) u v c.root p t e in (h.root_set p was.0 was.1).0, root p t (renamed (λ q. (q == bit) || by_strong q) u v c.root p t e));
      held = λ l t. held l t (same_or_not t v);
      held_in = λ l t off. h.held_in l (cond (t == v) u t) off;
    }) h
  where
    -- a cell of a unit now is one of a unit in the world before
    of_live : (w k : ℕ) → has (set_at (set_at c.cells u left) v own w) k ≡ true → (w ≡ v) ⊎ (is_live c.phase c.doomed c.marked w ≡ true)
        → (x : ℕ) × (is_live c.phase c.doomed c.marked x ≡ true) × (has (c.cells x) k ≡ true)
    of_live w k has_k world = at_set (λ (xs : List ℕ). has xs k ≡ true → (x : ℕ) × (is_live c.phase c.doomed c.marked x ≡ true) × (has (c.cells x) k ≡ true)) (set_at c.cells u left) v own w
        (λ e mine. (u, may.unit, subst (λ (xs : List ℕ). has xs k ≡ true) (sym may.parts) (has-append left own k (inr mine))))
        (λ n. at_set (λ (xs : List ℕ). has xs k ≡ true → (x : ℕ) × (is_live c.phase c.doomed c.marked x ≡ true) × (has (c.cells x) k ≡ true)) c.cells u left w
        (λ e stays. (u, may.unit, subst (λ (xs : List ℕ). has xs k ≡ true) (sym may.parts) (has-append left own k (inl stays))))
        (λ o was. (w, other n world, was))) has_k
      where
        other : (w ≡ v → ⊥) → (w ≡ v) ⊎ (is_live c.phase c.doomed c.marked w ≡ true) → is_live c.phase c.doomed c.marked w ≡ true
        other n (inl e) = absurd (n e)
        other n (inr live) = live

    to_live : (w k t : ℕ) → has (set_at (set_at c.cells u left) v own w) k ≡ true → (w ≡ v) ⊎ (is_live c.phase c.doomed c.marked w ≡ true)
        → (t ≡ v) ⊎ (c.cell k ≡ Some t) → (t ≡ v) ⊎ (is_live c.phase c.doomed c.marked t ≡ true)
    to_live w k t has_k world (inl e) = inl e
    to_live w k t has_k world (inr e) = let was = of_live w k has_k world in inr (h.cells was.0 k t was.1 was.2 e)

    root : (p t : ℕ) → (t ≡ v) ⊎ (c.root p ≡ Some t) → (t ≡ v) ⊎ (is_live c.phase c.doomed c.marked t ≡ true)
    root p t (inl e) = inl e
    root p t (inr e) = inr (h.root_set p t e).1

    held : (l t : ℕ) → (t ≡ v) ⊎ (t ≡ v → ⊥) → c.holds l (cond (t == v) u t) ≡ true → (t ≡ v) ⊎ (is_live c.phase c.doomed c.marked t ≡ true)
    held l t (inl e) on = inl e
    held l t (inr n) on = inr (go (t == v) refl on)
      where
        go : (b : Bool) → (t == v) ≡ b → c.holds l (cond b u t) ≡ true → is_live c.phase c.doomed c.marked t ≡ true
        go true e on = absurd (n (eqb-true t v e))
        go false e on = h.held l t on
