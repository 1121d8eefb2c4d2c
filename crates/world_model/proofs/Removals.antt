-- In every legal history: what lives, what is marked, and what a commit removes.
use Rattle.std.proofs.Common.{◌≡◌, ◌↔◌, ℕ, refl, sym, subst, ap, ◌∙◌, inl, inr, Bool, true, false, not, ◌||◌, List, [], ◌∷◌, ◌++◌, map, filter, Some, ◌⊎◌, Contains}
use Rattle.std.specs.List.{list_any}
use Rattle.std.proofs.lemmas.Bool.{both_ways, not-true, false_from_ne_true, true_from_ne_false, or_left}
use Rattle.std.proofs.lemmas.List.Folds.{list_any-append}
use Rattle.world_model.specs.Types.{Name, Idle, Marking, Gathering, SweepStop, Pass, Lane, Marker, Collector, Act, Entry}
use Rattle.world_model.specs.Types.act
use Rattle.world_model.specs.Types.begin
use Rattle.world_model.specs.Types.commit
use Rattle.world_model.specs.Types.sweep
use Rattle.world_model.specs.Sizes.{Sizes}
use Rattle.world_model.specs.NameLists.{same_name, has, members, ends_with, but_last, parted, names_from, set_at}
use Rattle.world_model.specs.CollectorSteps.{Commits, SweepMay}
use Rattle.world_model.specs.World.{World, Removed, unit_of, in_world}
use Rattle.world_model.specs.Reach.{graph, IsUnit, IsRoot, IsRootUnit, IsReached}
use Rattle.world_model.specs.State.{State, is_marked, white_units}
use Rattle.world_model.specs.Next.{next_world, with_loose, next_by, next, run, settled, lane_of}
use Rattle.world_model.specs.Histories.{MayBy, Legal, state_of, after}
use Rattle.world_model.specs.Calls.{by, Appends}
use Rattle.world_model.specs.Laws.{started, done}
use Rattle.world_model.specs.Follows.{HeldLives, NamedLives, BlackRefersToMarked, RootsMarked, NoWhiteReached, StartMarksRoots, RootsStayMarked, CommitRuleFollows, NoneDone, is_done, IsParted, KeepsOrRemoves, ReachedStay, RemovesUnreached, CommitRemovesUnreached, LivesAfter, made_by}
use Rattle.world_model.specs.Midway.{AreApart}
use Rattle.world_model.proofs.ListFacts.{or_true, or_right, Among, among_append, among_left, among_filter, among_filter_test, filter_among, test_among, among_test, among_contains, contains_among}
use Rattle.world_model.proofs.NameFacts.{same_name_refl, found_unit, has_among}
use Rattle.world_model.proofs.Joins.{histories_join}
use Rattle.world_model.proofs.Reaches.{reached_unit, reached_passes}
use Rattle.world_model.proofs.Units.{units_apart}
use Rattle.world_model.proofs.Solo.{state_after}
use Rattle.world_model.proofs.Collections.{keeps_mark, all_keep}
use Rattle.world_model.proofs.Progress.{started_world}
use Rattle.world_model.proofs.Rounds.{named}
use Rattle.world_model.proofs.Loosening.{ends_splits, lives_loose, parted_among, first_part, last_part, whole_part}
use Rattle.world_model.proofs.Queues.{named_any, fresh}
use Rattle.world_model.proofs.Inductions.{one_more, by_more_states}
use Rattle.world_model.proofs.Sound.{IsSound, sound, not_both}
use Rattle.world_model.proofs.Barrier.{barred, lived, living_stays, makes_living, own_unit, member_lives, no_grey, roots, sets, loosens_may, marked_more, set_name_here, set_at_here, of_some}

-- ---- what is held and named

pub held_lives_holds : HeldLives
held_lives_holds z history legal lane n held = let h = (barred z history legal).holding in (h.lives lane n held, h.opened lane n held)

pub named_lives_holds : NamedLives
named_lives_holds z history legal = let h = (barred z history legal).named in record { cells = h.cells; rooted = h.rooted; strong = h.strong }

-- ---- marking

pub black_refers_holds : BlackRefersToMarked
black_refers_holds z history legal marking u v unit other refers is_black not_grey =
    (barred z history legal).tricolour.black marking u v refers.from refers.slot refers.to (contains_among _ u unit) (contains_among _ v other)
    refers.member refers.target refers.cell is_black not_grey

pub no_white_reached_holds : NoWhiteReached
no_white_reached_holds z history legal marking none roots u reached =
    reached_passes (graph (after history)) (λ v. is_marked (state_of history).marks v ≡ true) roots
    (λ v x unit other is refers. black_refers_holds z history legal marking v x unit other refers is (no_grey (state_of history) marking none v (contains_among _ v unit))) u reached

-- ---- roots

pub starts_may : (z : Sizes) (s : State) (p : Pass) → MayBy z s p (act.BeginGc begin.Started) → s.world.phase ≡ Idle
starts_may z s (Lane lane) may = absurd may.may
starts_may z s (Marker marker) may = absurd may.may
starts_may z s Collector may = may.may.0.idle

-- an entry but a commit keeps root units marked
roots_next : (z : Sizes) (s : State) (p : Pass) (a : Act) → MayBy z s p a → AreApart s.world.kinds s.world.units → s.world.phase ≡ Marking → is_done a ≡ false → RootsMarked s
    → RootsMarked (next_by s (next_world s.marks s.world p a) p a)
roots_next z s p (act.Make kinds first) may apart marking other h = λ u unit root. go u root (among_append s.world.units (new ∷ []) u (contains_among _ u unit))
  where
    new : List Name
    new = names_from (lane_of p) first kinds

    fresh_more : (n : Name) → has s.marks.fresh n ≡ true → has (new ++ s.marks.fresh) n ≡ true
    fresh_more n e = list_any-append (same_name n) new s.marks.fresh ∙ or_right (has new n) _ e

    own : (n : Name) → has new n ≡ true → has (new ++ s.marks.fresh) n ≡ true
    own n e = list_any-append (same_name n) new s.marks.fresh ∙ or_left _ _ e

    go : (u : List Name) → IsRootUnit (graph s.world) u → Among s.world.units u ⊎ ((new ≡ u) ⊎ ⊥) → list_any (λ n. has s.marks.kept n || has (new ++ s.marks.fresh) n) u ≡ true
    go u root (inl k) = marked_more s.marks.kept s.marks.kept s.marks.fresh (new ++ s.marks.fresh) u (λ n e. e) fresh_more (h u (among_contains _ u k) root)
    go u root (inr (inl e)) =
        among_test (λ n. has s.marks.kept n || has (new ++ s.marks.fresh) n) u root.0 (has_among u root.0 root.1)
        (or_right _ _ (own root.0 (subst (λ (x : List Name). has x root.0 ≡ true) (sym e) root.1)))
    go u root (inr (inr e)) = absurd e
roots_next z s p (act.Kept of) may apart marking other h = λ u unit root. marked_more s.marks.kept (of ∷ s.marks.kept) s.marks.fresh s.marks.fresh u (λ n e. or_right _ _ e) (λ n e. e) (h u unit root)
roots_next z s p (act.Root at on old) may apart marking other h = λ u unit root. go u unit root.0 root.1 root.2
  where
    marked_at : (u : List Name) → IsUnit (graph s.world) u → on ≡ true → has u at ≡ true → is_marked s.marks u ≡ true
    marked_at u unit is k = subst (λ (x : List Name). is_marked s.marks x ≡ true) (own_unit s.world apart u at (contains_among _ u unit) k) ((roots z s p at on old may).2.shaded is marking)

    go : (u : List Name) → IsUnit (graph s.world) u → (n : Name) → has u n ≡ true → IsRoot (graph (next_world s.marks s.world p (act.Root at on old))) n → is_marked s.marks u ≡ true
    go u unit n k (inl is) =
        set_name_here s.world.rooted at on (λ n b. b ≡ true → has u n ≡ true → is_marked s.marks u ≡ true) (marked_at u unit) (λ n e k. h u unit (n, k, inl e)) n is k
    go u unit n k (inr strong) = h u unit (n, k, inr strong)
roots_next z s p (act.SetStrong number to old) may apart marking other h = λ u unit root. go u unit root.0 root.1 root.2
  where
    marked_to : (u : List Name) → IsUnit (graph s.world) u → (n : Name) → has u n ≡ true → to ≡ Some n → is_marked s.marks u ≡ true
    marked_to u unit n k e =
        subst (λ (x : List Name). is_marked s.marks x ≡ true) (own_unit s.world apart u n (contains_among _ u unit) k)
        (of_some (λ n. is_marked s.marks (unit_of s.world n) ≡ true) to ((sets z s p number to old may).2.shaded marking) n e)

    go : (u : List Name) → IsUnit (graph s.world) u → (n : Name) → has u n ≡ true → IsRoot (graph (next_world s.marks s.world p (act.SetStrong number to old))) n → is_marked s.marks u ≡ true
    go u unit n k (inl is) = h u unit (n, k, inl is)
    go u unit n k (inr (l, i, e)) =
        set_at_here s.world.strong (lane_of p) (set_at (s.world.strong (lane_of p)) number to) (λ l row. (i : ℕ) → row i ≡ Some n → is_marked s.marks u ≡ true)
        (set_at_here (s.world.strong (lane_of p)) number to (λ i c. c ≡ Some n → is_marked s.marks u ≡ true) (marked_to u unit n k) (λ i e. h u unit (n, k, inr (lane_of p, i, e))))
        (λ l i e. h u unit (n, k, inr (l, i, e))) l i e
roots_next z s p (act.BeginGc begin.Started) may apart marking other h = absurd (let idle = starts_may z s p may in let wrong : Idle ≡ Marking = sym idle ∙ marking in cc)
roots_next z s p (act.CommitGc commit.Done) may apart marking other h = absurd cc
roots_next z s p (act.Loose of) may apart marking other h = absurd ((loosens_may z s p of may).2.unmarked marking)
roots_next z s p _ may apart marking other h = λ u unit root. h u unit root

pub still_marking : (z : Sizes) (s : State) (p : Pass) (a : Act) → MayBy z s p a → s.world.phase ≡ Marking → is_done a ≡ false → (next_world s.marks s.world p a).phase ≡ Marking
still_marking z s p (act.BeginGc begin.Started) may marking other = refl
still_marking z s p (act.CommitGc commit.Done) may marking other = absurd cc
still_marking z s Collector (act.Sweep budget reply names) may marking other = go reply.stop may.may
  where
    go : (stop : SweepStop) → SweepMay z s budget reply names stop → settled s.world.phase stop ≡ Marking
    go sweep.More may = marking
    go sweep.Settled may = absurd (let wrong : Gathering ≡ Marking = sym may.0.gathering ∙ marking in cc)
    go (sweep.NotGathering phase) may = marking
still_marking z s (Lane lane) (act.Sweep budget reply names) may marking other = absurd may.may
still_marking z s (Marker marker) (act.Sweep budget reply names) may marking other = absurd may.may
still_marking z s p _ may marking other = marking

-- a collection marks until a commit is done
still_marking_on : (z : Sizes) (before during : List Entry) → Legal z (before ++ during) → (after before).phase ≡ Marking → NoneDone during → (after (before ++ during)).phase ≡ Marking
still_marking_on z before during legal marking none =
    by_more_states z before (λ s. s.world.phase ≡ Marking) (λ e. is_done e.act ≡ false) marking (λ xs e legal may other h. still_marking z (state_of xs) e.pass e.act may h other) during legal none

pub roots_stay_marked_holds : RootsStayMarked
roots_stay_marked_holds z before during legal marking h all =
    (by_more_states z before (λ s. (s.world.phase ≡ Marking) × RootsMarked s) (λ e. is_done e.act ≡ false) (marking, h)
    (λ xs e legal may other both. (
      still_marking z (state_of xs) e.pass e.act may both.0 other,
      roots_next z (state_of xs) e.pass e.act may (units_apart z xs legal) both.0 other both.1,
    )) during legal all).1

-- notes of the collector keep what they name
notes_kept : (s : State) (of : List Name) (n : Name) → Among of n ⊎ (has s.marks.kept n ≡ true) → has (run s (by Collector (map act.Kept of))).marks.kept n ≡ true
notes_kept s [] n (inl k) = absurd k
notes_kept s [] n (inr e) = e
notes_kept s (m ∷ of) n (inl (inl e)) =
    notes_kept (next s (record { pass = Collector; act = act.Kept m })) of n
    (inr (or_left _ _ (subst (λ (x : Name). same_name n x ≡ true) (sym e) (same_name_refl n))))
notes_kept s (m ∷ of) n (inl (inr k)) = notes_kept (next s (record { pass = Collector; act = act.Kept m })) of n (inl k)
notes_kept s (m ∷ of) n (inr e) = notes_kept (next s (record { pass = Collector; act = act.Kept m })) of n (inr (or_right _ _ e))

pub start_marks_roots_holds : StartMarksRoots
start_marks_roots_holds z old new h =
    let notes : List Entry = by Collector (map act.Kept h.call.0.of) in
    let left : state_of new ≡ run (next (state_of old) started) notes =
    state_after z old new Collector (act.BeginGc begin.Started) h
    ∙ ap (λ (acts : List Act). run (state_of old) (by Collector acts)) h.call.0.are in
    let same : graph (run (next (state_of old) started) notes).world ≡ graph (after old) = all_keep (next (state_of old) started) notes (keeps_mark h.call.0.of) in
    subst RootsMarked (sym left) (λ u unit root.
    let some = test_among (has u) h.call.0.of (h.call.1.each u (subst (λ g. IsUnit g u) same unit) (subst (λ g. IsRootUnit g u) same root)) in
    among_test (λ n. has (run (next (state_of old) started) notes).marks.kept n || has (run (next (state_of old) started) notes).marks.fresh n) u some.0 (has_among u some.0 some.2)
    (or_left _ _ (notes_kept (next (state_of old) started) h.call.0.of some.0 (inl some.1))))

-- when a collection has started, it marks, and its notes change nothing of that
start_marks : (z : Sizes) (old new : List Entry) → Appends z old new Collector (act.BeginGc begin.Started) → (after new).phase ≡ Marking
start_marks z old new h = (started_world z old new h).0

pub commit_rule_follows_holds : CommitRuleFollows
commit_rule_follows_holds z old new during h legal none black u white reached =
    let marking = still_marking_on z new during legal (start_marks z old new h) none in
    let roots = roots_stay_marked_holds z new during legal (start_marks z old new h) (start_marks_roots_holds z old new h) none in
    both_ways _ white (no_white_reached_holds z (new ++ during) legal marking black roots u reached)

-- ---- removal

-- the parts of that which a case tells
record Tells (before now : World) (e : Entry) : Type 0 where
  pub reached_stay : (u : List Name) → IsReached (graph before) u → IsUnit (graph now) u ⊎ IsParted now e u
  pub others : (u : List Name) → IsUnit (graph before) u → IsUnit (graph now) u ⊎ IsParted now e u ⊎ ((e ≡ done) × Contains now.last_removed u)

-- the members of a unit that stays, or is parted, live
keeps_or_removes : (before now : World) (e : Entry) → Tells before now e → KeepsOrRemoves before now e
keeps_or_removes before now e h = record { reached_stay = h.reached_stay; reached_live = λ u n reached k. live u n k (h.reached_stay u reached); others = h.others }
  where
    live : (u : List Name) (n : Name) → has u n ≡ true → IsUnit (graph now) u ⊎ IsParted now e u → in_world now n ≡ true
    live u n k (inl unit) = member_lives now u n (contains_among _ u unit) k
    live u n k (inr p) = go (or_true (has p.left n) _ (sym (list_any-append (same_name n) p.left (p.of ∷ [])) ∙ ap (λ (v : List Name). has v n) (sym p.was) ∙ k))
      where
        go : (has p.left n ≡ true) ⊎ (has (p.of ∷ []) n ≡ true) → in_world now n ≡ true
        go (inl a) = member_lives now p.left n (contains_among _ p.left p.rest) a
        go (inr b) = member_lives now (p.of ∷ []) n (contains_among _ (p.of ∷ []) p.alone) b

pub removal : (z : Sizes) (s : State) (p : Pass) (a : Act) → MayBy z s p a → KeepsOrRemoves s.world (next_world s.marks s.world p a) (record { pass = p; act = a })
removal z s Collector (act.CommitGc commit.Done) may = keeps_or_removes s.world (next_world s.marks s.world Collector done.act) done record {
  reached_stay = λ u reached.
      let unit = reached_unit (graph s.world) u reached in
      inl (among_contains _ u (filter_among (is_marked s.marks) s.world.units u (contains_among _ u unit) (true_from_ne_false _ (λ white. may.may.unreached u unit white reached))));
  others = λ u unit. go u unit (is_marked s.marks u) refl;
}
  where
    go : (u : List Name) → IsUnit (graph s.world) u → (b : Bool) → is_marked s.marks u ≡ b
        → Contains (filter (is_marked s.marks) s.world.units) u ⊎ IsParted (next_world s.marks s.world Collector done.act) done u ⊎ ((done ≡ done) × Contains (white_units s.marks s.world) u)
    go u unit true e = inl (among_contains _ u (filter_among (is_marked s.marks) s.world.units u (contains_among _ u unit) e))
    go u unit false e = inr (inr (refl, among_contains _ u (filter_among (λ u. not (is_marked s.marks u)) s.world.units u (contains_among _ u unit) (rw e refl))))
removal z s (Lane lane) (act.CommitGc commit.Done) may = absurd may.may
removal z s (Marker marker) (act.CommitGc commit.Done) may = absurd may.may
removal z s p (act.Make kinds first) may = keeps_or_removes s.world (next_world s.marks s.world p (act.Make kinds first)) _ record {
  reached_stay = λ u reached. inl (stays u (reached_unit (graph s.world) u reached));
  others = λ u unit. inl (stays u unit);
}
  where
    stays : (u : List Name) → IsUnit (graph s.world) u → Contains (s.world.units ++ names_from (lane_of p) first kinds ∷ []) u
    stays u unit = among_contains _ u (among_left s.world.units _ u (contains_among _ u unit))
removal z s p (act.Loose of) may = keeps_or_removes s.world (with_loose s.world of) _ record {
  reached_stay = λ u reached. go u (reached_unit (graph s.world) u reached) (ends_with of u) refl;
  others = λ u unit. pick u (go u unit (ends_with of u) refl);
}
  where
    now : World
    now = with_loose s.world of

    e : Entry
    e = record { pass = p; act = act.Loose of }

    part : (u v : List Name) → IsUnit (graph s.world) u → Among (parted of u) v → IsUnit (graph now) v
    part u v unit k = among_contains _ v (parted_among of s.world.units u v (contains_among _ u unit) k)

    go : (u : List Name) → IsUnit (graph s.world) u → (b : Bool) → ends_with of u ≡ b → IsUnit (graph now) u ⊎ IsParted now e u
    go u unit false out = inl (part u u unit (whole_part of u out))
    go u unit true is =
        inr
        (record {
          of = of;
          left = but_last u;
          by = refl;
          was = ends_splits of u is;
          rest = part u (but_last u) unit (first_part of u is);
          alone = part u (of ∷ []) unit (last_part of u is);
        })

    pick : (u : List Name) → IsUnit (graph now) u ⊎ IsParted now e u → IsUnit (graph now) u ⊎ IsParted now e u ⊎ ((e ≡ done) × Contains now.last_removed u)
    pick u (inl stays) = inl stays
    pick u (inr parts) = inr (inl parts)
removal z s p (act.BeginGc begin.Started) may =
    keeps_or_removes s.world (next_world s.marks s.world p (act.BeginGc begin.Started)) _
    record { reached_stay = λ u reached. inl (reached_unit (graph s.world) u reached); others = λ u unit. inl unit }
removal z s p a may = keeps_or_removes s.world (next_world s.marks s.world p a) _ record { reached_stay = λ u reached. inl (reached_unit (graph s.world) u reached); others = λ u unit. inl unit }

pub reached_stay_holds : ReachedStay
reached_stay_holds z history e legal =
    let may = ((histories_join.one_more z history e).0 legal).1 in
    subst (λ (s : State). KeepsOrRemoves (after history) s.world e) (sym (one_more history e)) (removal z (state_of history) e.pass e.act may)

pub commit_removes_unreached_holds : CommitRemovesUnreached
commit_removes_unreached_holds z history legal =
    let may : Commits (state_of history) = ((histories_join.one_more z history done).0 legal).1.may in
    let known : IsSound (next (state_of history) done) = subst IsSound (one_more history done) (sound z (history ++ done ∷ []) legal) in
    subst (λ (s : State). RemovesUnreached (after history) s.world) (sym (one_more history done)) (removes (state_of history) may known)
  where
    removes : (s : State) → Commits s → IsSound (next s done) → RemovesUnreached s.world (next s done).world
    removes s may known = record {
      units = λ u k. among_contains _ u (among_filter (λ u. not (is_marked s.marks u)) s.world.units u (contains_among _ u k));
      unreached = λ u k reached. may.unreached u (reached_unit (graph s.world) u reached)
          (not-true _ (among_filter_test (λ u. not (is_marked s.marks u)) s.world.units u (contains_among _ u k))) reached;
      removed = λ n k. (
        fresh n Removed now.removals (known.destroying.unbegun refl) ∙ is_named n ∙ k,
        false_from_ne_true _ (λ lives. not_both now known.once n lives (is_named n ∙ k)),
      );
      only = λ n k. known.destroying.listed n k;
    }
      where
        now : World
        now = (next s done).world

        is_named : (n : Name) → list_any (named n) now.removals ≡ has (members now.last_removed) n
        is_named n = sym (named_any n now.removals) ∙ ap (λ (ns : List Name). has ns n) (known.destroying.all_there refl)

-- ---- what lives after an entry

lives_next : (z : Sizes) (s : State) (p : Pass) (a : Act) → MayBy z s p a → AreApart s.world.kinds s.world.units → (n : Name)
    → (in_world (next_world s.marks s.world p a) n ≡ true) ↔ ((has (made_by p a) n ≡ true) ⊎ ((in_world s.world n ≡ true) × (is_done a ≡ true → is_marked s.marks (unit_of s.world n) ≡ true)))
lives_next z s p (act.Make kinds first) may apart n = (λ lives. before (lived s p (act.Make kinds first) n lives), now)
  where
    before : (in_world s.world n ≡ true) ⊎ (has (names_from (lane_of p) first kinds) n ≡ true)
        → (has (names_from (lane_of p) first kinds) n ≡ true)
        ⊎ ((in_world s.world n ≡ true) × (false ≡ true → is_marked s.marks (unit_of s.world n) ≡ true))
    before (inl lives) = inr (lives, λ e. absurd cc)
    before (inr new) = inl new

    now : (has (names_from (lane_of p) first kinds) n ≡ true)
        ⊎ ((in_world s.world n ≡ true) × (false ≡ true → is_marked s.marks (unit_of s.world n) ≡ true))
        → in_world (next_world s.marks s.world p (act.Make kinds first)) n ≡ true
    now (inl new) = makes_living s p kinds first n new
    now (inr old) = living_stays s p (act.Make kinds first) n refl old.0
lives_next z s p (act.CommitGc commit.Done) may apart n = (λ lives. inr (before lives), now)
  where
    before : list_any (λ u. has u n) (filter (is_marked s.marks) s.world.units) ≡ true → (in_world s.world n ≡ true) × (true ≡ true → is_marked s.marks (unit_of s.world n) ≡ true)
    before lives =
        let unit = test_among (λ u. has u n) (filter (is_marked s.marks) s.world.units) lives in
        let in_units = among_filter (is_marked s.marks) s.world.units unit.0 unit.1 in (
          member_lives s.world unit.0 n in_units unit.2,
          λ e. subst (λ (u : List Name). is_marked s.marks u ≡ true) (sym (own_unit s.world apart unit.0 n in_units unit.2)) (among_filter_test (is_marked s.marks) s.world.units unit.0 unit.1),
        )

    now : (has [] n ≡ true) ⊎ ((in_world s.world n ≡ true) × (true ≡ true → is_marked s.marks (unit_of s.world n) ≡ true)) → list_any (λ u. has u n) (filter (is_marked s.marks) s.world.units) ≡ true
    now (inl e) = absurd cc
    now (inr old) = let unit = found_unit s.world.units n old.0 in
        among_test (λ u. has u n) (filter (is_marked s.marks) s.world.units) (unit_of s.world n) (filter_among (is_marked s.marks) s.world.units (unit_of s.world n) unit.0 (old.1 refl)) unit.1
lives_next z s p (act.Loose of) may apart n = (λ lives. inr (sym (lives_loose s.world of n) ∙ lives, λ e. absurd cc), λ h. of_old h)
  where
    of_old : (has [] n ≡ true) ⊎ ((in_world s.world n ≡ true) × (false ≡ true → is_marked s.marks (unit_of s.world n) ≡ true)) → in_world (with_loose s.world of) n ≡ true
    of_old (inl e) = absurd cc
    of_old (inr old) = lives_loose s.world of n ∙ old.0
lives_next z s p (act.BeginGc begin.Started) may apart n = (λ lives. inr (lives, λ e. absurd cc), λ h. of_old h)
  where
    of_old : (has [] n ≡ true) ⊎ ((in_world s.world n ≡ true) × (false ≡ true → is_marked s.marks (unit_of s.world n) ≡ true)) → in_world s.world n ≡ true
    of_old (inl e) = absurd cc
    of_old (inr old) = old.0
lives_next z s p _ may apart n = (λ lives. inr (lives, λ e. absurd cc), λ h. of_old h)
  where
    of_old : (has [] n ≡ true) ⊎ ((in_world s.world n ≡ true) × (false ≡ true → is_marked s.marks (unit_of s.world n) ≡ true)) → in_world s.world n ≡ true
    of_old (inl e) = absurd cc
    of_old (inr old) = old.0

pub lives_after_holds : LivesAfter
lives_after_holds z history e legal n =
    let parts = (histories_join.one_more z history e).0 legal in
    subst
    (λ (s : State).
    (in_world s.world n ≡ true)
    ↔ ((has (made_by e.pass e.act) n ≡ true)
    ⊎ ((in_world (after history) n ≡ true)
    × (is_done e.act ≡ true → is_marked (state_of history).marks (unit_of (after history) n) ≡ true)))) (sym (one_more history e))
    (lives_next z (state_of history) e.pass e.act parts.1 (units_apart z history parts.0) n)
