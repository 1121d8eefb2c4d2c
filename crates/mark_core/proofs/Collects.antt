-- The collector goes over the root set and over the rows.
use Rattle.std.proofs.Common.{◌≡◌, ℕ, ◌+◌, ◌*◌, ◌/◌, ◌%◌, ◌<◌, ◌≤◌, ◌==◌, ◌&&◌, nat_le, nat_lt, is_none, refl, sym, subst, ap, ◌∙◌, inl, inr, zero, suc, arith, rules, Bool, cond, true, false, ◌⊎◌, Option, Some, None}
use Rattle.std.proofs.lemmas.Bool.{eqb-true, eq-eqb}
use Rattle.mark_core.specs.Changes.{set_at}
use Rattle.mark_core.specs.Machine.{Phase, Marking, Place, Nowhere, InRow, Job, NoJob, Roots, Look, Sizes, Core, root_places, words, same_place, row_bit}
use Rattle.mark_core.specs.Steps.{is_live, finds_root, rests, rests_by, roots_done, none_set, is_zero_word, first_look, next_word, looks}
use Rattle.mark_core.specs.Lawful.{Lawful, Unloaded, AtWork, FoundNone, IsBefore, LookedAt}
use Rattle.mark_core.proofs.Tools.{same_or_not, true_or_false, and_true, some_same, at_set, set_here, set_there, not_is_false, in_or_beyond, live_alive}

-- with another job
with_job : (z : Sizes) (c : Core) (j : Job) → c.job ≡ j → Lawful z c → Lawful z (record c { job = j })
with_job z c j e h = subst (λ (x : Job). Lawful z (record c { job = x })) e h

pub marking_at_roots : (phase : Phase) (job : Job) (p : ℕ) (hand : Option ℕ) (found : ℕ → Bool) → job ≡ Roots p → AtWork phase job hand found → phase ≡ Marking
marking_at_roots phase NoJob p hand found e h = absurd cc
marking_at_roots phase (Roots q) p hand found e h = h
marking_at_roots phase (Look r w) p hand found e h = absurd cc

finds_more : (found : ℕ → Bool) (got : Option ℕ) (v : ℕ) → found v ≡ true → finds_root found got v ≡ true
finds_more found None v h = h
finds_more found (Some u) v h = at_set (λ b. b ≡ true) found u true v (λ e. refl) (λ n. h)

finds_this : (found : ℕ → Bool) (got : Option ℕ) (v : ℕ) → got ≡ Some v → finds_root found got v ≡ true
finds_this found None v e = absurd cc
finds_this found (Some u) v e = set_here found u true v (sym (some_same u v e))

found_before : (found : ℕ → Bool) (got : Option ℕ) (v : ℕ) → finds_root found got v ≡ true → (got ≡ Some v) ⊎ (found v ≡ true)
found_before found None v h = inr h
found_before found (Some u) v h = go (same_or_not v u)
  where
    go : (v ≡ u) ⊎ (v ≡ u → ⊥) → (Some u ≡ Some v) ⊎ (found v ≡ true)
    go (inl e) = inl (ap (λ (x : ℕ). Some x) (sym e))
    go (inr n) = inr (sym (set_there found u true v n) ∙ h)

-- The collector loads a place of the root set
pub root_loaded : (z : Sizes) (c : Core) (p : ℕ) → c.job ≡ Roots p → Lawful z c → Lawful z (record c { job = Roots (p + 1); own_found = finds_root c.own_found (c.root p) })
root_loaded z c p at h = record {
  beyond = h.beyond;
  scans_own = h.scans_own;
  open_in = h.open_in;
  lanes = h.lanes;
  markers = h.markers;
  held_in = h.held_in;
  stacks_in = h.stacks_in;
  standing = h.standing;
  grey = h.grey;
  black = h.black;
  roots = λ m q v e. pick q v e (h.roots m q v e);
  quiet = h.quiet;
  work = marking_at_roots c.phase c.job p c.own_hand c.own_found at h.work;
  looked = tt;
  cells = h.cells;
  root_set = h.root_set;
  held = h.held;
  found = record { markers = h.found.markers; own = λ u e. live u (found_before c.own_found (c.root p) u e) };
  idle = h.idle;
}
  where
    live : (u : ℕ) → (c.root p ≡ Some u) ⊎ (c.own_found u ≡ true) → is_live c.phase c.doomed c.marked u ≡ true
    live u (inl e) = (h.root_set p u e).1
    live u (inr k) = h.found.own u k

    here : (q v : ℕ) → p ≤ q → c.root q ≡ Some v → (c.marked v ≡ true) ⊎ ((p + 1 ≤ q) ⊎ (finds_root c.own_found (c.root p) v ≡ true))
    here q v le e = choose (same_or_not q p)
      where
        choose : (q ≡ p) ⊎ (q ≡ p → ⊥) → (c.marked v ≡ true) ⊎ ((p + 1 ≤ q) ⊎ (finds_root c.own_found (c.root p) v ≡ true))
        choose (inl same) = inr (inr (finds_this c.own_found (c.root p) v (ap c.root (sym same) ∙ e)))
        choose (inr n) = inr (inl (omega arith))

    pick : (q v : ℕ) → c.root q ≡ Some v → (c.marked v ≡ true) ⊎ (Unloaded c.job q ⊎ (c.own_found v ≡ true)) → (c.marked v ≡ true) ⊎ ((p + 1 ≤ q) ⊎ (finds_root c.own_found (c.root p) v ≡ true))
    pick q v e (inl on) = inl on
    pick q v e (inr (inl un)) = here q v (subst (λ (j : Job). Unloaded j q) at un) e
    pick q v e (inr (inr has_v)) = inr (inr (finds_more c.own_found (c.root p) v has_v))

-- What the collector found and is marked is settled
pub root_settled : (z : Sizes) (c : Core) (u p : ℕ) → c.job ≡ Roots p → c.marked u ≡ true → Lawful z c → Lawful z (record c { own_found = set_at c.own_found u false })
root_settled z c u p at on h = record {
  beyond = h.beyond;
  scans_own = h.scans_own;
  open_in = h.open_in;
  lanes = h.lanes;
  markers = h.markers;
  held_in = h.held_in;
  stacks_in = h.stacks_in;
  standing = h.standing;
  grey = h.grey;
  black = h.black;
  roots = λ m q v e. pick q v (h.roots m q v e);
  quiet = h.quiet;
  work = subst (λ (j : Job). AtWork c.phase j c.own_hand (set_at c.own_found u false)) (sym at) (marking_at_roots c.phase c.job p c.own_hand c.own_found at h.work);
  looked = h.looked;
  cells = h.cells;
  root_set = h.root_set;
  held = h.held;
  found =
      record {
        markers = h.found.markers;
        own =
            λ v e.
            at_set (λ b. b ≡ true → is_live c.phase c.doomed c.marked v ≡ true) c.own_found u false v (λ s wrong. absurd cc) (λ n f. h.found.own v f)
            e;
      };
  idle = h.idle;
}
  where
    rest : (q v : ℕ) → c.own_found v ≡ true → (v ≡ u) ⊎ (v ≡ u → ⊥) → (c.marked v ≡ true) ⊎ (Unloaded c.job q ⊎ (set_at c.own_found u false v ≡ true))
    rest q v f (inl e) = inl (ap c.marked e ∙ on)
    rest q v f (inr n) = inr (inr (set_there c.own_found u false v n ∙ f))

    pick : (q v : ℕ) → (c.marked v ≡ true) ⊎ (Unloaded c.job q ⊎ (c.own_found v ≡ true)) → (c.marked v ≡ true) ⊎ (Unloaded c.job q ⊎ (set_at c.own_found u false v ≡ true))
    pick q v (inl e) = inl e
    pick q v (inr (inl un)) = inr (inl un)
    pick q v (inr (inr has_v)) = rest q v has_v (same_or_not v u)

pub none_set_is : (f : ℕ → Bool) (n : ℕ) → none_set f n ≡ true → (i : ℕ) → i < n → f i ≡ false
unfolding none_set
none_set_is f zero e i lt = absurd (omega arith)
none_set_is f (suc n) e i lt = go (f n) refl e (none_set_is f n)
  where
    go : (b : Bool) → f n ≡ b → cond b false (none_set f n) ≡ true → (none_set f n ≡ true → (j : ℕ) → j < n → f j ≡ false) → f i ≡ false
    go true is k next = absurd cc
    go false is k next = pick (same_or_not i n)
      where
        pick : (i ≡ n) ⊎ (i ≡ n → ⊥) → f i ≡ false
        pick (inl same) = ap f same ∙ is
        pick (inr other) = next k i (omega arith)

none_is : (o : Option ℕ) → is_none o ≡ true → o ≡ None
none_is None e = refl
none_is (Some u) e = absurd cc

nat_le_true : (a b : ℕ) → nat_le a b ≡ true → a ≤ b
nat_le_true a b e = search rules

-- when Roots is done nothing is in hand or found, and all places are loaded
done_work : (z : Sizes) (job : Job) (hand : Option ℕ) (found : ℕ → Bool) → ((u : ℕ) → z.units ≤ u → found u ≡ false)
    → roots_done z job hand found ≡ true → (hand ≡ None) × FoundNone found × ((p : ℕ) → p < root_places z → Unloaded job p → ⊥)
done_work z NoJob hand found far e = absurd cc
done_work z (Look r w) hand found far e = absurd cc
done_work z (Roots p) hand found far e =
    let parts = and_true (nat_le (root_places z) p) (is_none hand && none_set found z.units) e in
    let rest = and_true (is_none hand) (none_set found z.units) parts.1 in
    let all : root_places z ≤ p = nat_le_true (root_places z) p parts.0 in
    (none_is hand rest.0, λ u. nothing rest.1 u (in_or_beyond z u), λ q lt un. absurd (omega arith))
  where
    nothing : none_set found z.units ≡ true → (u : ℕ) → (u < z.units) ⊎ (z.units ≤ u) → found u ≡ false
    nothing none u (inl lt) = none_set_is found z.units none u lt
    nothing none u (inr le) = far u le

pub rested : (z : Sizes) (c : Core) → Lawful z c → Lawful z (rests z c)
rested z c h = go (roots_done z c.job c.own_hand c.own_found) refl
  where
    -- only units of the machine are found
    far : (u : ℕ) → z.units ≤ u → c.own_found u ≡ false
    far u le = not_is_false (c.own_found u) (λ on. absurd (let alive = live_alive c.phase c.doomed c.marked u (h.found.own u on) in let dead = h.beyond u le in cc))

    go : (b : Bool) → roots_done z c.job c.own_hand c.own_found ≡ b → Lawful z (rests_by b c)
    go false e = h
    go true e =
        let done = done_work z c.job c.own_hand c.own_found far e in
        record {
          beyond = h.beyond;
          scans_own = h.scans_own;
          open_in = h.open_in;
          lanes = h.lanes;
          markers = h.markers;
          held_in = h.held_in;
          stacks_in = h.stacks_in;
          standing = h.standing;
          grey = h.grey;
          black = h.black;
          roots = λ m q v at. pick done.1 done.2 q v at (h.roots m q v at);
          quiet = h.quiet;
          work = (done.0, done.1);
          looked = tt;
          cells = h.cells;
          root_set = h.root_set;
          held = h.held;
          found = h.found;
          idle = h.idle;
        }
      where
        pick : FoundNone c.own_found → ((p : ℕ) → p < root_places z → Unloaded c.job p → ⊥) → (q v : ℕ) → c.root q ≡ Some v
            → (c.marked v ≡ true) ⊎ (Unloaded c.job q ⊎ (c.own_found v ≡ true)) → (c.marked v ≡ true) ⊎ (⊥ ⊎ (c.own_found v ≡ true))
        pick none all q v at (inl on) = inl on
        pick none all q v at (inr (inl un)) = absurd (all q (h.root_set q v at).0 un)
        pick none all q v at (inr (inr has_v)) = inr (inr has_v)

-- outside of Roots all that the root set names is marked
pub roots_marked : (z : Sizes) (c : Core) → c.phase ≡ Marking → ((p : ℕ) → Unloaded c.job p → ⊥) → FoundNone c.own_found → Lawful z c → (p v : ℕ) → c.root p ≡ Some v → c.marked v ≡ true
roots_marked z c m loaded none h p v e = go (h.roots m p v e)
  where
    go : (c.marked v ≡ true) ⊎ (Unloaded c.job p ⊎ (c.own_found v ≡ true)) → c.marked v ≡ true
    go (inl on) = on
    go (inr (inl un)) = absurd (loaded p un)
    go (inr (inr has_v)) = absurd (let nothing = none v in cc)

-- a bit that is set is in a word of the row
in_words : (z : Sizes) (c : Core) (u : ℕ) → (c.place u ≡ Nowhere → ⊥) → Lawful z c → u / 64 < words z
in_words z c u grey_u h = pick (true_or_false (nat_lt u z.units))
  where
    pick : (nat_lt u z.units ≡ true) ⊎ (nat_lt u z.units ≡ false) → u / 64 < words z
    pick (inl e) = let lt : u < z.units = search rules in omega arith
    pick (inr e) = let ge : z.units ≤ u = search rules in absurd (grey_u (h.grey.doomed_is u (h.beyond u ge)))

-- The collector clears the dirty bit and begins to look
pub look_begun : (z : Sizes) (c : Core) → c.job ≡ NoJob → c.phase ≡ Marking → Lawful z c → Lawful z (record c { dirty = false; job = first_look z })
look_begun z c at marking h = go (nat_lt 0 (words z)) refl
  where
    idle_work : (c.own_hand ≡ None) × FoundNone c.own_found
    idle_work = subst (λ (j : Job). AtWork c.phase j c.own_hand c.own_found) at h.work

    from : (r w : ℕ) → ((u q : ℕ) → c.place u ≡ InRow q → IsBefore q (u / 64) r w → ⊥) → Lawful z (record c { dirty = false; job = Look r w })
    from r w none_before =
        record {
          beyond = h.beyond;
          scans_own = h.scans_own;
          open_in = h.open_in;
          lanes = h.lanes;
          markers = h.markers;
          held_in = h.held_in;
          stacks_in = h.stacks_in;
          standing = h.standing;
          grey = h.grey;
          black = h.black;
          roots = λ m p v e. inl (roots_marked z c m (λ q un. subst (λ (j : Job). Unloaded j q) at un) idle_work.1 h p v e);
          quiet = λ out. absurd (out marking);
          work = (marking, idle_work.0, idle_work.1);
          looked = λ clean lanes markers u q e. none_before u q e;
          cells = h.cells;
          root_set = h.root_set;
          held = h.held;
          found = h.found;
          idle = h.idle;
        }

    nothing_before : (u q : ℕ) → IsBefore q (u / 64) 0 0 → ⊥
    nothing_before u q (inl lt) = absurd (omega arith)
    nothing_before u q (inr both) = let lt = both.1 in absurd (omega arith)

    go : (b : Bool) → nat_lt 0 (words z) ≡ b → Lawful z (record c { dirty = false; job = cond b (Look 0 0) (Look (z.markers + 1) 0) })
    go true e = from 0 0 (λ u q in_row. nothing_before u q)
    go false e = from (z.markers + 1) 0 (λ u q in_row before. absurd (
        let small : u / 64 < words z = in_words z c u (λ none. absurd cc) h in
        let no_words : words z ≤ 0 = search rules in omega arith))

-- it stops
pub look_stopped : (z : Sizes) (c : Core) (r w : ℕ) → c.job ≡ Look r w → Lawful z c → Lawful z (record c { job = NoJob })
look_stopped z c r w at h =
    let work : (c.phase ≡ Marking) × (c.own_hand ≡ None) × FoundNone c.own_found = subst (λ (j : Job). AtWork c.phase j c.own_hand c.own_found) at h.work in
    record {
      beyond = h.beyond;
      scans_own = h.scans_own;
      open_in = h.open_in;
      lanes = h.lanes;
      markers = h.markers;
      held_in = h.held_in;
      stacks_in = h.stacks_in;
      standing = h.standing;
      grey = h.grey;
      black = h.black;
      roots = λ m p v e. inl (roots_marked z c m (λ q un. subst (λ (j : Job). Unloaded j q) at un) work.2 h p v e);
      quiet = h.quiet;
      work = (work.1, work.2);
      looked = tt;
      cells = h.cells;
      root_set = h.root_set;
      held = h.held;
      found = h.found;
      idle = h.idle;
    }

-- no unit of a zero word has its bit set
zero_word_is : (place : ℕ → Place) (r w u : ℕ) → is_zero_word place r w ≡ true → u / 64 ≡ w → place u ≡ InRow r → ⊥
zero_word_is place r w u zero_is at in_row =
    let spot : 64 * w + u % 64 ≡ u = omega arith in
    let small : u % 64 < 64 = omega arith in
    let clear : row_bit place r (64 * w + u % 64) ≡ false = none_set_is (λ i. row_bit place r (64 * w + i)) 64 zero_is (u % 64) small in
    let here : row_bit place r u ≡ false = subst (λ (x : ℕ). row_bit place r x ≡ false) spot clear in
    let own : same_place (InRow r) (InRow r) ≡ false = subst (λ (p : Place). same_place p (InRow r) ≡ false) in_row here in
    let same : (r == r) ≡ true = eq-eqb r r refl in
    absurd cc

-- it goes on behind a word that was found zero
pub look_goes_on : (z : Sizes) (c : Core) (r w : ℕ) → c.job ≡ Look r w → is_zero_word c.place r w ≡ true → Lawful z c → Lawful z (record c { job = next_word z r w })
look_goes_on z c r w at zero_is h = go (nat_lt (w + 1) (words z)) refl
  where
    work : (c.phase ≡ Marking) × (c.own_hand ≡ None) × FoundNone c.own_found
    work = subst (λ (j : Job). AtWork c.phase j c.own_hand c.own_found) at h.work

    looked : LookedAt (Look r w) c.dirty c.lane_owes c.marker_owes c.place
    looked = subst (λ (j : Job). LookedAt j c.dirty c.lane_owes c.marker_owes c.place) at h.looked

    on : (r2 w2 : ℕ) → ((q x u : ℕ) → u / 64 ≡ x → c.place u ≡ InRow q → IsBefore q x r2 w2 → IsBefore q x r w ⊎ ((q ≡ r) × (x ≡ w))) → Lawful z (record c { job = Look r2 w2 })
    on r2 w2 split =
        record {
          beyond = h.beyond;
          scans_own = h.scans_own;
          open_in = h.open_in;
          lanes = h.lanes;
          markers = h.markers;
          held_in = h.held_in;
          stacks_in = h.stacks_in;
          standing = h.standing;
          grey = h.grey;
          black = h.black;
          roots = λ m p v e. inl (roots_marked z c m (λ q un. subst (λ (j : Job). Unloaded j q) at un) work.2 h p v e);
          quiet = h.quiet;
          work = work;
          looked = λ clean lanes markers u q e before. pick u q e (looked clean lanes markers u q e) (split q (u / 64) u refl e before);
          cells = h.cells;
          root_set = h.root_set;
          held = h.held;
          found = h.found;
          idle = h.idle;
        }
      where
        pick : (u q : ℕ) → c.place u ≡ InRow q → (IsBefore q (u / 64) r w → ⊥) → IsBefore q (u / 64) r w ⊎ ((q ≡ r) × (u / 64 ≡ w)) → ⊥
        pick u q e never (inl before) = never before
        pick u q e never (inr both) = zero_word_is c.place r w u zero_is both.1 (e ∙ ap InRow both.0)

    same_row : (q x u : ℕ) → u / 64 ≡ x → c.place u ≡ InRow q → IsBefore q x r (w + 1) → IsBefore q x r w ⊎ ((q ≡ r) × (x ≡ w))
    same_row q x u e at_q (inl lt) = inl (inl lt)
    same_row q x u e at_q (inr both) = choose (same_or_not x w)
      where
        choose : (x ≡ w) ⊎ (x ≡ w → ⊥) → IsBefore q x r w ⊎ ((q ≡ r) × (x ≡ w))
        choose (inl same) = inr (both.0, same)
        choose (inr n) = let lt = both.1 in inl (inr (both.0, omega arith))

    next_row : words z ≤ w + 1 → (q x u : ℕ) → u / 64 ≡ x → c.place u ≡ InRow q → IsBefore q x (r + 1) 0 → IsBefore q x r w ⊎ ((q ≡ r) × (x ≡ w))
    next_row ends q x u e at_q (inr both) = let lt = both.1 in absurd (omega arith)
    next_row ends q x u e at_q (inl lt) = let small : u / 64 < words z = in_words z c u (λ none. absurd cc) h in row small (same_or_not q r)
      where
        col : x < words z → q ≡ r → (x ≡ w) ⊎ (x ≡ w → ⊥) → IsBefore q x r w ⊎ ((q ≡ r) × (x ≡ w))
        col small same (inl here) = inr (same, here)
        col small same (inr n) = inl (inr (same, omega arith))

        row : u / 64 < words z → (q ≡ r) ⊎ (q ≡ r → ⊥) → IsBefore q x r w ⊎ ((q ≡ r) × (x ≡ w))
        row small (inr n) = inl (inl (omega arith))
        row small (inl same) = col (subst (λ (y : ℕ). y < words z) e small) same (same_or_not x w)

    go : (b : Bool) → nat_lt (w + 1) (words z) ≡ b → Lawful z (record c { job = cond b (Look r (w + 1)) (Look (r + 1) 0) })
    go true e = on r (w + 1) same_row
    go false e = let ends : words z ≤ w + 1 = search rules in on (r + 1) 0 (next_row ends)

-- the collector loads a word of a row
pub row_loaded : (z : Sizes) (c : Core) (r w : ℕ) (job : Job) → c.job ≡ job → Lawful z c → Lawful z (record c { job = looks z c.place job r w })
row_loaded z c r w NoJob at h = with_job z c NoJob at h
row_loaded z c r w (Roots p) at h = with_job z c (Roots p) at h
row_loaded z c r w (Look q x) at h = go ((q == r) && (x == w)) refl
  where
    zero_case : q ≡ r → x ≡ w → (b : Bool) → is_zero_word c.place r w ≡ b → Lawful z (record c { job = cond b (next_word z r w) NoJob })
    zero_case e f true is = look_goes_on z c r w (at ∙ (ap (λ y. Look y x) e ∙ ap (Look r) f)) is h
    zero_case e f false is = look_stopped z c q x at h

    go : (b : Bool) → ((q == r) && (x == w)) ≡ b → Lawful z (record c { job = cond b (cond (is_zero_word c.place r w) (next_word z r w) NoJob) (Look q x) })
    go true e = let parts = and_true (q == r) (x == w) e in zero_case (eqb-true q r parts.0) (eqb-true x w parts.1) (is_zero_word c.place r w) refl
    go false e = with_job z c (Look q x) at h
