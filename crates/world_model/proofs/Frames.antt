-- What stays while a frame or slice is open, and while others act; and how many may be open.
use Rattle.std.proofs.Common.{◌≡◌, ◌≢◌, ℕ, ◌+◌, ◌≤◌, ◌<◌, zero, suc, refl, sym, subst, ap, ◌∙◌, inl, inr, arith, Bool, cond, true, false, not, ◌||◌, ◌==◌, List, [], ◌∷◌, ◌++◌, filter, length, Option, Some, unwrap_or, ◌⊎◌, append-nil, is_some, if◌then◌else◌}
use Rattle.std.specs.List.{list_any, count_by, find, AllByRecursion}
use Rattle.std.proofs.lemmas.Bool.{both_ways, not_from_false, false_from_ne_true, eqb-true, eq-eqb, ne_eqb, or_right}
use Rattle.std.proofs.lemmas.List.Filters.{sum_by-filter_both}
use Rattle.world_model.specs.Types.{Name, Phase, Idle, Gathering, SweepStop, Pass, Lane, Marker, Collector, Act, Entry}
use Rattle.world_model.specs.Types.act
use Rattle.world_model.specs.Types.begin
use Rattle.world_model.specs.Types.commit
use Rattle.world_model.specs.Types.sweep
use Rattle.world_model.specs.Sizes.{Sizes}
use Rattle.world_model.specs.NameLists.{same_pass, has, names_from, set_at}
use Rattle.world_model.specs.World.{Pair, unit_of, in_world, is_open, pair_of, drawn}
use Rattle.world_model.specs.State.{State, is_marked}
use Rattle.world_model.specs.Next.{next_world, next_by, next, settled, lane_of}
use Rattle.world_model.specs.CollectorSteps.{SweepMay}
use Rattle.world_model.specs.Histories.{MayBy, May, Legal, state_of, after}
use Rattle.world_model.specs.Follows.{IsMade, made_by, loosens, is_start, is_done, UnitStays, UnitsNeverJoin, OwnUnitsStay, PhaseStays, Closes, IsKeptOpen, OpenKeeps, IsOwn, OwnStays, OwnJoins, IsActor, FewOpen}
use Rattle.world_model.specs.Midway.{AreApart}
use Rattle.world_model.proofs.ListFacts.{any_filter, filter_any, Among, among_filter, among_filter_test, contains_among}
use Rattle.world_model.proofs.Quiet.{not_open, other_lane}
use Rattle.world_model.proofs.Inductions.{by_states, by_more, by_more_states, one_more_of, all_trivial, all_split}
use Rattle.world_model.proofs.Counts.{count-append, count-cons, uncounted}
use Rattle.world_model.proofs.Stages.{one_counted}
use Rattle.world_model.proofs.Barrier.{lived, living_stays, own_unit, unit_lives, loosens_may}
use Rattle.world_model.proofs.Joins.{histories_join}
use Rattle.world_model.proofs.NameFacts.{found_unit}
use Rattle.world_model.proofs.Units.{units_apart}
use Rattle.world_model.proofs.Sound.{sound, made_living, made_stays, is_new}
use Rattle.world_model.proofs.Loosening.{ends_own, unit_of_loose, stays_whole, part_within}

-- ---- passes

pub same_pass_true : (p q : Pass) → same_pass p q ≡ true → p ≡ q
same_pass_true (Lane a) (Lane b) h = ap (λ (k : ℕ). Lane k) (eqb-true a b h)
same_pass_true (Lane a) (Marker b) h = absurd cc
same_pass_true (Lane a) Collector h = absurd cc
same_pass_true (Marker a) (Marker b) h = ap (λ (k : ℕ). Marker k) (eqb-true a b h)
same_pass_true (Marker a) (Lane b) h = absurd cc
same_pass_true (Marker a) Collector h = absurd cc
same_pass_true Collector Collector h = refl
same_pass_true Collector (Lane b) h = absurd cc
same_pass_true Collector (Marker b) h = absurd cc

-- ---- while a frame or slice is open

-- the first unit with a name is the same when more units stand behind
pub find_front : {A : Type 0} (p : A → Bool) (xs ys : List A) → list_any p xs ≡ true → find p (xs ++ ys) ≡ find p xs
find_front p [] ys h = absurd cc
find_front p (x ∷ xs) ys h = go (p x) refl h (find_front p xs ys)
  where
    go : (b : Bool) → p x ≡ b → (b || list_any p xs) ≡ true → (list_any p xs ≡ true → find p (xs ++ ys) ≡ find p xs) → cond b (Some x) (find p (xs ++ ys)) ≡ cond b (Some x) (find p xs)
    go true e h rest = refl
    go false e h rest = rest h

unit_stays : (s : State) (p : Pass) (a : Act) (n : Name) → is_done a ≡ false → loosens a (unit_of s.world n) ≡ false → in_world s.world n ≡ true
    → unit_of (next_world s.marks s.world p a) n ≡ unit_of s.world n
unit_stays s p (act.Make kinds first) n other whole h = ap (λ (o : Option (List Name)). unwrap_or o []) (find_front (λ u. has u n) s.world.units (names_from (lane_of p) first kinds ∷ []) h)
unit_stays s p (act.CommitGc commit.Done) n other whole h = absurd cc
unit_stays s p (act.BeginGc begin.Started) n other whole h = refl
unit_stays s p (act.Loose of) n other whole h = unit_of_loose s.world of n ∙ stays_whole of n (unit_of s.world n) whole
unit_stays s p _ n other whole h = refl

-- also over a commit, where the object outlives it
unit_stays_living : (s : State) (p : Pass) (a : Act) (n : Name) → AreApart s.world.kinds s.world.units → loosens a (unit_of s.world n) ≡ false
    → in_world s.world n ≡ true → in_world (next_world s.marks s.world p a) n ≡ true
    → unit_of (next_world s.marks s.world p a) n ≡ unit_of s.world n
unit_stays_living s p (act.CommitGc commit.Done) n apart whole lives now =
    let unit = found_unit (filter (is_marked s.marks) s.world.units) n now in
    sym (own_unit s.world apart (unit_of (next_world s.marks s.world p (act.CommitGc commit.Done)) n) n (among_filter (is_marked s.marks) s.world.units _ unit.0) unit.1)
unit_stays_living s p (act.BeginGc begin.Started) n apart whole lives now = refl
unit_stays_living s p (act.Make kinds first) n apart whole lives now = unit_stays s p (act.Make kinds first) n refl refl lives
unit_stays_living s p (act.Loose of) n apart whole lives now = unit_stays s p (act.Loose of) n refl whole lives
unit_stays_living s p _ n apart whole lives now = refl

-- an object that was made and lives lived before
lived_then : (z : Sizes) (s : State) (e : Entry) (n : Name) → May z s e → IsMade s.world n → in_world (next s e).world n ≡ true → in_world s.world n ≡ true
lived_then z s e n may made now = old (lived s e.pass e.act n now)
  where
    old : (in_world s.world n ≡ true) ⊎ (has (made_by e.pass e.act) n ≡ true) → in_world s.world n ≡ true
    old (inl lives) = lives
    old (inr new) = absurd ((is_new z s e.pass e.act n may new).0 made)

-- An object stays in its unit under entries none of which takes the last member out of that.
unit_stays_by : (z : Sizes) (before more : List Entry) (n : Name) (Q : Entry → Type 0) → Legal z (before ++ more) → in_world (after before) n ≡ true → in_world (after (before ++ more)) n ≡ true
    → ((s : State) (e : Entry) → AreApart s.world.kinds s.world.units → May z s e → Q e → in_world s.world n ≡ true
    → unit_of s.world n ≡ unit_of (after before) n → loosens e.act (unit_of s.world n) ≡ false)
    → AllByRecursion Q more → unit_of (after (before ++ more)) n ≡ unit_of (after before) n
unit_stays_by z before more n Q legal lives now none all =
    (by_more_states z before (λ s. IsMade s.world n × (in_world s.world n ≡ true → unit_of s.world n ≡ unit_of (after before) n)) Q
    (made_living (after before) (sound z before start).once n lives, λ h. refl)
    (λ xs e legal may q h. (
      made_stays (state_of xs) e.pass e.act n h.0,
      λ lives_now.
          let apart = units_apart z xs legal in
          let old = lived_then z (state_of xs) e n may h.0 lives_now in
          unit_stays_living (state_of xs) e.pass e.act n apart (none (state_of xs) e apart may q old (h.1 old)) old lives_now ∙ h.1 old,
    )) more legal all).1 now
  where
    start : Legal z before
    start = ((histories_join.legal z before more).0 legal).0

pub unit_stays_holds : UnitStays
unit_stays_holds z before more legal n lives now all =
    unit_stays_by z before more n (λ e. loosens e.act (unit_of (after before) n) ≡ false) legal lives now (λ s e apart may q old same. ap (loosens e.act) same ∙ q) all

-- a lane parts no unit of another lane
no_other : (z : Sizes) (s : State) (p : Pass) (a : Act) (n : Name) → AreApart s.world.kinds s.world.units → MayBy z s p a → p ≢ Lane n.lane
    → in_world s.world n ≡ true → loosens a (unit_of s.world n) ≡ false
no_other z s p (act.Loose of) n apart may other lives = false_from_ne_true _ (λ ends.
    let by = loosens_may z s p of may in
    let unit = found_unit s.world.units n lives in
    other (by.1 ∙ ap (λ (l : ℕ). Lane l) (sym by.2.own ∙ apart.one_lane (unit_of s.world n) of n unit.0 (ends_own of (unit_of s.world n) ends) unit.1)))
no_other z s p _ n apart may other lives = refl

pub own_units_stay_holds : OwnUnitsStay
own_units_stay_holds z before during n legal all lives now =
    unit_stays_by z before during n (λ e. e.pass ≢ Lane n.lane) legal lives now (λ s e apart may other old same. no_other z s e.pass e.act n apart may other old) all

-- what stands in one unit after an entry stood in one before it
pub never_join : (z : Sizes) (s : State) (p : Pass) (a : Act) (n m : Name) → AreApart s.world.kinds s.world.units → in_world s.world n ≡ true → in_world (next_world s.marks s.world p a) n ≡ true
    → has (unit_of (next_world s.marks s.world p a) n) m ≡ true → has (unit_of s.world n) m ≡ true
never_join z s p (act.Loose of) n m apart lives now h = part_within of n (unit_of s.world n) m (ap (λ (u : List Name). has u m) (sym (unit_of_loose s.world of n)) ∙ h)
never_join z s p (act.Make kinds first) n m apart lives now h = ap (λ (u : List Name). has u m) (sym (unit_stays_living s p (act.Make kinds first) n apart refl lives now)) ∙ h
never_join z s p (act.CommitGc commit.Done) n m apart lives now h = ap (λ (u : List Name). has u m) (sym (unit_stays_living s p (act.CommitGc commit.Done) n apart refl lives now)) ∙ h
never_join z s p (act.BeginGc begin.Started) n m apart lives now h = h
never_join z s p _ n m apart lives now h = h

pub units_never_join_holds : UnitsNeverJoin
units_never_join_holds z before more legal n m lives h =
    (by_more_states z before (λ s. IsMade s.world n × (has (unit_of s.world n) m ≡ true → has (unit_of (after before) n) m ≡ true)) (λ e. Unit {0})
    (made_living (after before) (sound z before start).once n lives, λ h. h)
    (λ xs e legal may q h. (
      made_stays (state_of xs) e.pass e.act n h.0,
      λ k.
          let lives_now = unit_lives (next (state_of xs) e).world n m k in
          let old = lived_then z (state_of xs) e n may h.0 lives_now in
          h.1 (never_join z (state_of xs) e.pass e.act n m (units_apart z xs legal) old lives_now k),
    )) more legal (all_trivial more)).1 h
  where
    start : Legal z before
    start = ((histories_join.legal z before more).0 legal).0

pub no_start : (z : Sizes) (s : State) (p : Pass) (a : Act) (q : Pass) → MayBy z s p a → is_open s.world q ≡ true → is_start a ≡ false
no_start z s Collector (act.BeginGc begin.Started) q may h = absurd (not_open s.world q h may.may.1)
no_start z s (Lane lane) (act.BeginGc begin.Started) q may h = absurd may.may
no_start z s (Marker marker) (act.BeginGc begin.Started) q may h = absurd may.may
no_start z s p _ q may h = refl

pub no_commit : (z : Sizes) (s : State) (p : Pass) (a : Act) (q : Pass) → MayBy z s p a → is_open s.world q ≡ true → is_done a ≡ false
no_commit z s Collector (act.CommitGc commit.Done) q may h = absurd (not_open s.world q h may.may.closed)
no_commit z s (Lane lane) (act.CommitGc commit.Done) q may h = absurd may.may
no_commit z s (Marker marker) (act.CommitGc commit.Done) q may h = absurd may.may
no_commit z s p _ q may h = refl

phase_next : (z : Sizes) (s : State) (p : Pass) (a : Act) → MayBy z s p a → is_start a ≡ false → is_done a ≡ false → PhaseStays s.world.phase (next_world s.marks s.world p a).phase
phase_next z s p (act.BeginGc begin.Started) may start other = absurd cc
phase_next z s p (act.CommitGc commit.Done) may start other = absurd cc
phase_next z s Collector (act.Sweep budget reply names) may start other = go reply.stop may.may
  where
    go : (stop : SweepStop) → SweepMay z s budget reply names stop → PhaseStays s.world.phase (settled s.world.phase stop)
    go sweep.More may = inl refl
    go sweep.Settled may = inr (may.0.gathering, refl)
    go (sweep.NotGathering phase) may = inl refl
phase_next z s (Lane lane) (act.Sweep budget reply names) may start other = absurd may.may
phase_next z s (Marker marker) (act.Sweep budget reply names) may start other = absurd may.may
phase_next z s p _ may start other = inl refl

phase_joins : (a b c : Phase) → PhaseStays a b → PhaseStays b c → PhaseStays a c
phase_joins a b c (inl e) (inl f) = inl (f ∙ e)
phase_joins a b c (inl e) (inr f) = inr (sym e ∙ f.0, f.1)
phase_joins a b c (inr e) (inl f) = inr (e.0, f ∙ e.1)
phase_joins a b c (inr e) (inr f) = absurd (let wrong : Idle ≡ Gathering = sym e.1 ∙ f.0 in cc)

-- an entry that does not close a pass leaves it open
pub open_next : (s : State) (p : Pass) (a : Act) (q : Pass) → (Closes q (record { pass = p; act = a }) → ⊥) → is_open s.world q ≡ true → is_open (next_world s.marks s.world p a) q ≡ true
open_next s p (act.FrameOpen phase) q other h = or_right _ _ h
open_next s p act.SliceOpen q other h = or_right _ _ h
open_next s p act.FrameClose q other h =
    filter_any (same_pass q) (λ x. not (same_pass p x)) s.world.opened
    (λ x e. not_from_false _ (false_from_ne_true _ (λ f. other (same_pass_true p x f ∙ sym (same_pass_true q x e), inl refl)))) h
open_next s p (act.Slice budget reply) q other h =
    filter_any (same_pass q) (λ x. not (same_pass p x)) s.world.opened
    (λ x e. not_from_false _ (false_from_ne_true _ (λ f. other (same_pass_true p x f ∙ sym (same_pass_true q x e), inr (budget, reply, refl))))) h
open_next s p (act.BeginGc begin.Started) q other h = h
open_next s p (act.CommitGc commit.Done) q other h = h
open_next s p _ q other h = h

pub open_keeps_holds : OpenKeeps
open_keeps_holds z before during q legal is all = by_more z before Kept (λ e. Closes q e → ⊥) first step during legal all
  where
    Kept : List Entry → Type 0
    Kept ds = IsKeptOpen q (after before) (after (before ++ ds)) ds

    first : Kept []
    first = subst (λ (xs : List Entry). IsKeptOpen q (after before) (after xs) []) (sym (append-nil before))
        (record { opened = is; starts = refl; commits = refl; phase = inl refl; lives = λ n h. h; units = λ n h none. refl })

    step : (ds : List Entry) (e : Entry) → Legal z (before ++ ds) → May z (state_of (before ++ ds)) e → (Closes q e → ⊥) → Kept ds → Kept (ds ++ e ∷ [])
    step ds e legal may other h =
        let s = state_of (before ++ ds) in
        let start = no_start z s e.pass e.act q may h.opened in
        let commit = no_commit z s e.pass e.act q may h.opened in
        subst (λ (t : State). IsKeptOpen q (after before) t.world (ds ++ e ∷ [])) (sym (one_more_of before ds e))
        (record {
          opened = open_next s e.pass e.act q other h.opened;
          starts = none (λ e. is_start e.act) ds e start h.starts;
          commits = none (λ e. is_done e.act) ds e commit h.commits;
          phase = phase_joins (after before).phase s.world.phase (next s e).world.phase h.phase (phase_next z s e.pass e.act may start commit);
          lives = λ n k. living_stays s e.pass e.act n commit (h.lives n k);
          units = λ n k all.
              let parts = all_split (λ e. loosens e.act (unit_of (after before) n) ≡ false) ds (e ∷ []) all in
              let same = h.units n k parts.0 in
              unit_stays s e.pass e.act n commit (ap (loosens e.act) same ∙ parts.1.0) (h.lives n k) ∙ same;
        })
      where
        none : (p : Entry → Bool) (ds : List Entry) (e : Entry) → p e ≡ false → count_by p ds ≡ 0 → count_by p (ds ++ e ∷ []) ≡ 0
        none p ds e out nil = one_counted p ds e ∙ (rw (out, nil) refl)

-- ---- while others act

pub set_at_miss : {A : Type 0} (f : ℕ → A) (k : ℕ) (value : A) (i : ℕ) → (i == k) ≡ false → set_at f k value i ≡ f i
set_at_miss f k value i e = rw e refl

-- a filter that keeps all that pass keeps the answer
pub any_kept : {A : Type 0} (q r : A → Bool) (xs : List A) → ((x : A) → q x ≡ true → r x ≡ true) → list_any q (filter r xs) ≡ list_any q xs
any_kept q r xs f = go (list_any q xs) refl
  where
    go : (b : Bool) → list_any q xs ≡ b → list_any q (filter r xs) ≡ b
    go true e = filter_any q r xs f e
    go false e = false_from_ne_true _ (λ k. both_ways _ e (any_filter q r xs k))

own_other_lane : (z : Sizes) (s : State) (lane l : ℕ) (a : Act) → (lane == l) ≡ false → MayBy z s (Lane l) a → IsOwn lane s (next_by s (next_world s.marks s.world (Lane l) a) (Lane l) a)
own_other_lane z s lane l (act.FrameOpen phase) other may = record {
  frame = set_at_miss s.frames l _ lane other;
  kinds = refl;
  strong = λ i. refl;
  drawn_is = refl;
  opened = rw other refl;
}
own_other_lane z s lane l act.FrameClose other may = record {
  frame = set_at_miss s.frames l _ lane other;
  kinds = refl;
  strong = λ i. refl;
  drawn_is = refl;
  opened = any_kept (same_pass (Lane lane)) (λ q. not (same_pass (Lane l) q)) s.world.opened (λ x e. other_lane lane l x other e);
}
own_other_lane z s lane l (act.Make kinds first) other may = record {
  frame = set_at_miss s.frames l _ lane other;
  kinds = set_at_miss s.world.kinds l _ lane other;
  strong = λ i. refl;
  drawn_is = refl;
  opened = refl;
}
own_other_lane z s lane l (act.SetStrong number to old) other may = record {
  frame = set_at_miss s.frames l _ lane other;
  kinds = refl;
  strong = λ i. ap (λ (row : ℕ → Option Name). row i) (set_at_miss s.world.strong l _ lane other);
  drawn_is = refl;
  opened = refl;
}
own_other_lane z s lane l (act.WeakOf at got) other may = record {
  frame = set_at_miss s.frames l _ lane other;
  kinds = refl;
  strong = λ i. refl;
  drawn_is = go (is_some (pair_of s.world at));
  opened = refl;
}
  where
    new : Pair
    new = record { weak = got; name = at; lane = l }

    apart : (l == lane) ≡ false
    apart = false_from_ne_true _ (λ t. both_ways _ other (eq-eqb lane l (sym (eqb-true l lane t))))

    go : (b : Bool) → count_by (λ (p : Pair). p.lane == lane) (if b then s.world.pairs else s.world.pairs ++ new ∷ []) ≡ drawn s.world lane
    go true = refl
    go false =
        let all = count-append (λ (p : Pair). p.lane == lane) s.world.pairs (new ∷ []) in
        let none : count_by (λ (p : Pair). p.lane == lane) (new ∷ []) ≡ 0 = uncounted (λ (p : Pair). p.lane == lane) (new ∷ []) (rw apart refl) in
        omega arith
own_other_lane z s lane l act.SliceOpen other may = absurd may.may
own_other_lane z s lane l (act.Slice budget reply) other may = absurd may.may
own_other_lane z s lane l (act.BeginGc reply) other may = absurd may.may
own_other_lane z s lane l (act.CommitGc reply) other may = absurd may.may
own_other_lane z s lane l _ other may = record { frame = set_at_miss s.frames l _ lane other; kinds = refl; strong = λ i. refl; drawn_is = refl; opened = refl }

own_marker : (z : Sizes) (s : State) (lane m : ℕ) (a : Act) → MayBy z s (Marker m) a → IsOwn lane s (next_by s (next_world s.marks s.world (Marker m) a) (Marker m) a)
own_marker z s lane m act.SliceOpen may = record { frame = refl; kinds = refl; strong = λ i. refl; drawn_is = refl; opened = refl }
own_marker z s lane m (act.Slice budget reply) may = record {
  frame = refl;
  kinds = refl;
  strong = λ i. refl;
  drawn_is = refl;
  opened = any_kept (same_pass (Lane lane)) (λ q. not (same_pass (Marker m) q)) s.world.opened (λ x e. not_from_false _ (false_from_ne_true _ (λ f.
      both_ways (same_pass (Lane lane) (Marker m)) refl (subst (λ (y : Pass). same_pass (Lane lane) y ≡ true) (sym (same_pass_true (Marker m) x f)) e))));
}
own_marker z s lane m (act.Make kinds first) may = absurd may.may
own_marker z s lane m (act.SetStrong number to old) may = absurd may.may
own_marker z s lane m (act.WeakOf at got) may = absurd may.may
own_marker z s lane m (act.FrameOpen phase) may = absurd may.may
own_marker z s lane m act.FrameClose may = absurd may.may
own_marker z s lane m (act.BeginGc reply) may = absurd may.may
own_marker z s lane m (act.CommitGc reply) may = absurd may.may
own_marker z s lane m _ may = record { frame = refl; kinds = refl; strong = λ i. refl; drawn_is = refl; opened = refl }

own_collector : (z : Sizes) (s : State) (lane : ℕ) (a : Act) → MayBy z s Collector a → IsOwn lane s (next_by s (next_world s.marks s.world Collector a) Collector a)
own_collector z s lane (act.BeginGc begin.Started) may = record { frame = refl; kinds = refl; strong = λ i. refl; drawn_is = refl; opened = refl }
own_collector z s lane (act.CommitGc commit.Done) may = record { frame = refl; kinds = refl; strong = λ i. refl; drawn_is = refl; opened = refl }
own_collector z s lane (act.Make kinds first) may = absurd may.may
own_collector z s lane (act.SetStrong number to old) may = absurd may.may
own_collector z s lane (act.WeakOf at got) may = absurd may.may
own_collector z s lane (act.FrameOpen phase) may = absurd may.may
own_collector z s lane act.FrameClose may = absurd may.may
own_collector z s lane act.SliceOpen may = absurd may.may
own_collector z s lane (act.Slice budget reply) may = absurd may.may
own_collector z s lane _ may = record { frame = refl; kinds = refl; strong = λ i. refl; drawn_is = refl; opened = refl }

own_next : (z : Sizes) (s : State) (lane : ℕ) (p : Pass) (a : Act) → p ≢ Lane lane → MayBy z s p a → IsOwn lane s (next_by s (next_world s.marks s.world p a) p a)
own_next z s lane (Lane l) a other may = own_other_lane z s lane l a (ne_eqb lane l (λ e. other (ap (λ (k : ℕ). Lane k) (sym e)))) may
own_next z s lane (Marker m) a other may = own_marker z s lane m a may
own_next z s lane Collector a other may = own_collector z s lane a may

-- what stays twice stays
own_joins : (lane : ℕ) (s t u : State) → IsOwn lane s t → IsOwn lane t u → IsOwn lane s u
own_joins lane s t u a b = record {
  frame = b.frame ∙ a.frame;
  kinds = b.kinds ∙ a.kinds;
  strong = λ i. b.strong i ∙ a.strong i;
  drawn_is = b.drawn_is ∙ a.drawn_is;
  opened = b.opened ∙ a.opened;
}

pub own_stays_holds : OwnStays
own_stays_holds z before during lane legal all =
    by_more_states z before (λ s. IsOwn lane (state_of before) s) (λ e. e.pass ≢ Lane lane) (record { frame = refl; kinds = refl; strong = λ i. refl; drawn_is = refl; opened = refl })
    (λ xs e legal may other h. own_joins lane (state_of before) (state_of xs) (next (state_of xs) e) h (own_next z (state_of xs) lane e.pass e.act other may)) during legal all

pub own_joins_holds : OwnJoins
own_joins_holds lane s t u a b = own_joins lane s t u a b

-- ---- how many are open

pub record AreOpenOnce (z : Sizes) (opened : List Pass) : Type 0 where
  pub actors : (p : Pass) → Among opened p → IsActor z p
  pub once : (p : Pass) → count_by (same_pass p) opened ≤ 1

one_more_open : (z : Sizes) (opened : List Pass) (p : Pass) → IsActor z p → list_any (same_pass p) opened ≡ false → AreOpenOnce z opened → AreOpenOnce z (p ∷ opened)
one_more_open z opened p actor closed h = record { actors = actors; once = λ q. once q (same_pass q p) refl }
  where
    actors : (q : Pass) → (p ≡ q) ⊎ Among opened q → IsActor z q
    actors q (inl e) = subst (IsActor z) e actor
    actors q (inr k) = h.actors q k

    once : (q : Pass) → (b : Bool) → same_pass q p ≡ b → count_by (same_pass q) (p ∷ opened) ≤ 1
    once q true e =
        let c : count_by (same_pass q) (p ∷ opened) ≡ 1 + count_by (same_pass q) opened = count-cons (same_pass q) p opened ∙ (rw e refl) in
        let none = uncounted (same_pass q) opened (subst (λ (x : Pass). list_any (same_pass x) opened ≡ false) (sym (same_pass_true q p e)) closed) in
        omega arith
    once q false e =
        let c : count_by (same_pass q) (p ∷ opened) ≡ 0 + count_by (same_pass q) opened = count-cons (same_pass q) p opened ∙ (rw e refl) in
        let old = h.once q in
        omega arith

fewer_open : (z : Sizes) (opened : List Pass) (keep : Pass → Bool) → AreOpenOnce z opened → AreOpenOnce z (filter keep opened)
fewer_open z opened keep h = record {
  actors = λ q k. h.actors q (among_filter keep opened q k);
  once = λ q.
      let both = sum_by-filter_both keep (λ x. not (keep x)) (λ x. refl) (λ x. cond {A = ℕ} (same_pass q x) 1 0) opened in
      let old = h.once q in
      omega arith;
}

open_once_next : (z : Sizes) (s : State) (p : Pass) (a : Act) → MayBy z s p a → AreOpenOnce z s.world.opened → AreOpenOnce z (next_world s.marks s.world p a).opened
open_once_next z s (Lane lane) (act.FrameOpen phase) may h = one_more_open z s.world.opened (Lane lane) may.in_range may.frame h
open_once_next z s (Marker marker) (act.FrameOpen phase) may h = absurd may.may
open_once_next z s Collector (act.FrameOpen phase) may h = absurd may.may
open_once_next z s (Marker marker) act.SliceOpen may h = one_more_open z s.world.opened (Marker marker) may.in_range may.slice h
open_once_next z s (Lane lane) act.SliceOpen may h = absurd may.may
open_once_next z s Collector act.SliceOpen may h = absurd may.may
open_once_next z s p act.FrameClose may h = fewer_open z s.world.opened (λ q. not (same_pass p q)) h
open_once_next z s p (act.Slice budget reply) may h = fewer_open z s.world.opened (λ q. not (same_pass p q)) h
open_once_next z s p (act.BeginGc begin.Started) may h = h
open_once_next z s p (act.CommitGc commit.Done) may h = h
open_once_next z s p _ may h = h

-- what does not pass, and what does
pub length_parts : {A : Type 0} (q : A → Bool) (xs : List A) → length (filter (λ x. not (q x)) xs) + count_by q xs ≡ length xs
length_parts q [] = refl
length_parts q (x ∷ xs) = go (q x) refl (length_parts q xs) (count-cons q x xs)
  where
    go : (b : Bool) → q x ≡ b → length (filter (λ y. not (q y)) xs) + count_by q xs ≡ length xs → count_by q (x ∷ xs) ≡ cond (q x) 1 0 + count_by q xs
        → length (cond (not b) (x ∷ filter (λ y. not (q y)) xs) (filter (λ y. not (q y)) xs)) + count_by q (x ∷ xs) ≡ length (x ∷ xs)
    go true e rest c = let d : count_by q (x ∷ xs) ≡ 1 + count_by q xs = c ∙ (rw e refl) in omega arith
    go false e rest c = let d : count_by q (x ∷ xs) ≡ 0 + count_by q xs = c ∙ (rw e refl) in omega arith

-- lanes below one number and markers below another
abbrev Below : ℕ → ℕ → Pass → Type 0
Below l m (Lane lane) = lane < l
Below l m (Marker marker) = marker < m
Below l m Collector = ⊥

without : (l m : ℕ) (out : Pass) (xs : List Pass) → ((p : Pass) → Among xs p → Below l m p) → (p : Pass) → Among (filter (λ q. not (same_pass out q)) xs) p → Below l m p × (same_pass out p ≡ false)
without l m out xs below p k = (below p (among_filter (λ q. not (same_pass out q)) xs p k), out_of (same_pass out p) (among_filter_test (λ q. not (same_pass out q)) xs p k))
  where
    out_of : (b : Bool) → not b ≡ true → b ≡ false
    out_of true e = absurd cc
    out_of false e = refl

once_without : (out : Pass) (xs : List Pass) → ((p : Pass) → count_by (same_pass p) xs ≤ 1) → (p : Pass) → count_by (same_pass p) (filter (λ q. not (same_pass out q)) xs) ≤ 1
once_without out xs once p =
    let both = sum_by-filter_both (same_pass out) (λ x. not (same_pass out x)) (λ x. refl) (λ x. cond {A = ℕ} (same_pass p x) 1 0) xs in
    let old = once p in
    omega arith

few_passes : (l m : ℕ) (xs : List Pass) → ((p : Pass) → Among xs p → Below l m p) → ((p : Pass) → count_by (same_pass p) xs ≤ 1) → length xs ≤ l + m
few_passes zero zero [] below once = omega arith
few_passes zero zero (p ∷ xs) below once = absurd (none p (below p (inl refl)))
  where
    none : (p : Pass) → Below 0 0 p → ⊥
    none (Lane lane) h = absurd (omega arith)
    none (Marker marker) h = absurd (omega arith)
    none Collector h = h
few_passes zero (suc m) xs below once =
    let rest = few_passes zero m (filter (λ q. not (same_pass (Marker m) q)) xs) (λ p k. lower p (without zero (suc m) (Marker m) xs below p k)) (once_without (Marker m) xs once) in
    let parts = length_parts (same_pass (Marker m)) xs in
    let one = once (Marker m) in
    omega arith
  where
    lower : (p : Pass) → Below zero (suc m) p × (same_pass (Marker m) p ≡ false) → Below zero m p
    lower (Lane lane) h = absurd (omega (arith, h.0))
    lower (Marker marker) h = let ne : m ≢ marker = λ e. both_ways _ h.1 (eq-eqb m marker e) in omega (arith, h.0)
    lower Collector h = h.0
few_passes (suc l) m xs below once =
    let rest = few_passes l m (filter (λ q. not (same_pass (Lane l) q)) xs) (λ p k. lower p (without (suc l) m (Lane l) xs below p k)) (once_without (Lane l) xs once) in
    let parts = length_parts (same_pass (Lane l)) xs in
    let one = once (Lane l) in
    omega arith
  where
    lower : (p : Pass) → Below (suc l) m p × (same_pass (Lane l) p ≡ false) → Below l m p
    lower (Lane lane) h = let ne : l ≢ lane = λ e. both_ways _ h.1 (eq-eqb l lane e) in omega (arith, h.0)
    lower (Marker marker) h = h.0
    lower Collector h = h.0

actor_below : (z : Sizes) (p : Pass) → IsActor z p → Below z.lanes z.markers p
actor_below z (Lane lane) h = h
actor_below z (Marker marker) h = h
actor_below z Collector h = h

pub few_open_holds : FewOpen
few_open_holds z history legal =
    let h =
    by_states z (λ s. AreOpenOnce z s.world.opened) (record { actors = λ p k. absurd k; once = λ p. omega arith })
    (λ xs e legal may h. open_once_next z (state_of xs) e.pass e.act may h) history legal in
    record {
      actors = λ p k. h.actors p (contains_among _ p k);
      once = h.once;
      few = few_passes z.lanes z.markers (after history).opened (λ p k. actor_below z p (h.actors p k)) h.once;
    }
