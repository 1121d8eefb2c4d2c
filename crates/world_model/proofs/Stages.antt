-- In every legal history the stage of an object tells how often it was begun and finished.
use Rattle.std.proofs.Common.{◌≡◌, ℕ, ◌+◌, ◌≤◌, ◌<◌, refl, sym, subst, ap, ◌∙◌, inl, inr, arith, Bool, cond, true, false, not, ◌||◌, List, [], ◌∷◌, ◌++◌, filter, ◌⊎◌}
use Rattle.std.specs.List.{list_any, list_all, count_by}
use Rattle.std.proofs.lemmas.Bool.{both_ways, false_from_ne_true, cases_lt}
use Rattle.std.proofs.lemmas.List.Folds.{list_any-append}
use Rattle.world_model.specs.Types.{Name, Kind, Pass, Collector, Act, Entry}
use Rattle.world_model.specs.Types.act
use Rattle.world_model.specs.Types.begin
use Rattle.world_model.specs.Types.commit
use Rattle.world_model.specs.Sizes.{Sizes}
use Rattle.world_model.specs.NameLists.{same_name, has, members}
use Rattle.world_model.specs.World.{World, Stage, Removed, Begun, Finished, has_stage, in_world, made, is_at}
use Rattle.world_model.specs.State.{State, is_marked, white_units}
use Rattle.world_model.specs.Next.{next_world, next_by, next, at_stage, polled, released}
use Rattle.world_model.specs.Histories.{MayBy, May, Legal, state_of, after}
use Rattle.world_model.specs.Follows.{entry, IsMade, is_removed, made_by, freed_by, begins, finishes, times_begun, times_finished, WasDestroyed, DestroyedByStage, DestroyedOnce, AllBegunFirst, BegunWhenFinished, ReleasedWhole, ReleasedBeforeStart}
use Rattle.world_model.proofs.ListFacts.{or_right, any_filter, Among, test_among, among_test, filter_among, among_filter_test, among_contains}
use Rattle.world_model.proofs.NameFacts.{same_name_true, same_name_refl, has_among, among_has}
use Rattle.world_model.proofs.Joins.{histories_join}
use Rattle.world_model.proofs.Rounds.{in_removals_at, is_at-at_stage_same, is_at-at_stage_other, is_at-polled, is_at-released, has-members, named, released_by}
use Rattle.world_model.proofs.Queues.{find_some, all_at, last_stage, named_any, fresh}
use Rattle.world_model.proofs.Inductions.{by_entries, by_states, one_more}
use Rattle.world_model.proofs.Counts.{count-append, count-cons, names_new, names_of, names_filter}
use Rattle.world_model.proofs.Destroying.{named_kept, released_unit, left_after, among_new}
use Rattle.world_model.proofs.Sound.{IsSound, sound, next_sound, not_both, made_removed, made_stays, was_made, is_new, begins_may, finishes_may, releases_may, commits_may}
use Rattle.world_model.proofs.Loosening.{lives_loose}
use Rattle.world_model.proofs.Barrier.{lived}

-- begun and finished so often
abbrev pub Counts : ℕ → ℕ → ℕ → ℕ → Type 0
Counts b f k l = (b ≡ k) × (f ≡ l)

-- how often an object was begun and finished, by the place where it is
pub record IsStaged (w : World) (n : Name) (b f : ℕ) : Type 0 where
  pub unmade : (IsMade w n → ⊥) → Counts b f 0 0
  pub living : in_world w n ≡ true → Counts b f 0 0
  pub removed : is_at w Removed n ≡ true → Counts b f 0 0
  pub begun : is_at w Begun n ≡ true → Counts b f 1 0
  pub finished : is_at w Finished n ≡ true → Counts b f 1 1
  pub released : IsMade w n → in_world w n ≡ false → is_removed w n ≡ false → Counts b f 1 1

-- an object that stays where it is, and is neither begun nor finished
stays : (w w' : World) (n : Name) (b f b' f' : ℕ) → (IsMade w' n → IsMade w n) → (IsMade w n → IsMade w' n) → in_world w' n ≡ in_world w n → is_removed w' n ≡ is_removed w n
    → ((stage : Stage) → is_at w' stage n ≡ is_at w stage n) → b' ≡ b → f' ≡ f → IsStaged w n b f → IsStaged w' n b' f'
stays w w' n b f b' f' back forth lives gone stages same_b same_f h = record {
  unmade = λ no. let c = h.unmade (λ m. no (forth m)) in (same_b ∙ c.0, same_f ∙ c.1);
  living = λ is. let c = h.living (sym lives ∙ is) in (same_b ∙ c.0, same_f ∙ c.1);
  removed = λ is. let c = h.removed (sym (stages Removed) ∙ is) in (same_b ∙ c.0, same_f ∙ c.1);
  begun = λ is. let c = h.begun (sym (stages Begun) ∙ is) in (same_b ∙ c.0, same_f ∙ c.1);
  finished = λ is. let c = h.finished (sym (stages Finished) ∙ is) in (same_b ∙ c.0, same_f ∙ c.1);
  released = λ m out none. let c = h.released (back m) (sym lives ∙ out) (sym gone ∙ none) in (same_b ∙ c.0, same_f ∙ c.1);
}

-- an object at one stage of its destruction, and nowhere else
at_one : (w : World) (n : Name) (stage : Stage) (b f : ℕ) → IsMade w n → (in_world w n ≡ true → ⊥) → is_removed w n ≡ true
    → (is_at w Removed n ≡ true → Counts b f 0 0) → (is_at w Begun n ≡ true → Counts b f 1 0) → (is_at w Finished n ≡ true → Counts b f 1 1) → IsStaged w n b f
at_one w n stage b f made out gone removed begun finished = record {
  unmade = λ no. absurd (no made);
  living = λ is. absurd (out is);
  removed = removed;
  begun = begun;
  finished = finished;
  released = λ m o none. absurd (both_ways _ none gone);
}

plus_none : (b : ℕ) → b + 0 ≡ b
plus_none b = omega arith

-- ---- each entry

staged_make : (z : Sizes) (s : State) (p : Pass) (kinds : List Kind) (first : ℕ) (n : Name) (b f : ℕ) → MayBy z s p (act.Make kinds first) → IsSound s → IsStaged s.world n b f
    → IsStaged (next_world s.marks s.world p (act.Make kinds first)) n (b + 0) (f + 0)
staged_make z s p kinds first n b f may known h = go (has (made_by p (act.Make kinds first)) n) refl
  where
    w' : World
    w' = next_world s.marks s.world p (act.Make kinds first)

    lives : in_world w' n ≡ (in_world s.world n || (has (made_by p (act.Make kinds first)) n || false))
    lives = list_any-append (λ u. has u n) s.world.units (made_by p (act.Make kinds first) ∷ [])

    or_none : (a : Bool) → (a || false) ≡ a
    or_none true = refl
    or_none false = refl

    old : has (made_by p (act.Make kinds first)) n ≡ false → IsMade w' n → IsMade s.world n
    old e m = pick (was_made z s p (act.Make kinds first) n may m)
      where
        pick : IsMade s.world n ⊎ (has (made_by p (act.Make kinds first)) n ≡ true) → IsMade s.world n
        pick (inl m) = m
        pick (inr k) = absurd (both_ways _ e k)

    go : (t : Bool) → has (made_by p (act.Make kinds first)) n ≡ t → IsStaged w' n (b + 0) (f + 0)
    go false e =
        stays s.world w' n b f (b + 0) (f + 0) (old e) (made_stays s p (act.Make kinds first) n) (lives ∙ (rw e (or_none (in_world s.world n)))) refl
        (λ stage. refl) (plus_none b) (plus_none f) h
    go true e =
        let new = is_new z s p (act.Make kinds first) n may e in
        let zero = h.unmade new.0 in
        let counts : Counts (b + 0) (f + 0) 0 0 = (plus_none b ∙ zero.0, plus_none f ∙ zero.1) in
        let none : is_removed s.world n ≡ true → ⊥ = λ k. new.0 (made_removed s.world known.once n k) in
        record {
          unmade = λ no. counts;
          living = λ is. counts;
          removed = λ is. counts;
          begun = λ is. absurd (none (in_removals_at s.world Begun n is));
          finished = λ is. absurd (none (in_removals_at s.world Finished n is));
          released = λ m out gone. absurd (both_ways (in_world w' n) out (lives ∙ (rw e (or_right (in_world s.world n) true refl))));
        }

staged_commit : (z : Sizes) (s : State) (p : Pass) (n : Name) (b f : ℕ) → MayBy z s p (act.CommitGc commit.Done) → IsSound s → IsStaged s.world n b f
    → IsStaged (next_world s.marks s.world p (act.CommitGc commit.Done)) n (b + 0) (f + 0)
staged_commit z s p n b f may known h = record {
  unmade = λ no. same (h.unmade no);
  living = λ is. same (h.living (any_filter (λ u. has u n) (is_marked s.marks) s.world.units is));
  removed = λ is. same (h.living (was_living (in_removals_at w' Removed n is)));
  begun = λ is. absurd (both_ways (is_at w' Begun n) (none Begun refl) is);
  finished = λ is. absurd (both_ways (is_at w' Finished n) (none Finished refl) is);
  released = λ m out gone. same (h.released m (no_longer out gone) (ap (list_any (named n)) (known.destroying.unmarked (commits_may z s p may).marking)));
}
  where
    w' : World
    w' = next_world s.marks s.world p (act.CommitGc commit.Done)

    same : {k l : ℕ} → Counts b f k l → Counts (b + 0) (f + 0) k l
    same c = (plus_none b ∙ c.0, plus_none f ∙ c.1)

    white : List Name
    white = members (white_units s.marks s.world)

    is_named : is_removed w' n ≡ has white n
    is_named = sym (named_any n w'.removals) ∙ ap (λ (ns : List Name). has ns n) (names_new white)

    was_living : is_removed w' n ≡ true → in_world s.world n ≡ true
    was_living k = any_filter (λ u. has u n) (λ u. not (is_marked s.marks u)) s.world.units (sym (has-members (white_units s.marks s.world) n) ∙ sym is_named ∙ k)

    none : (stage : Stage) → has_stage stage Removed ≡ false → is_at w' stage n ≡ false
    none stage apart = fresh n stage w'.removals (among_new white) ∙ (rw apart refl)

    -- what neither lives nor is removed did not live before
    no_longer : in_world w' n ≡ false → is_removed w' n ≡ false → in_world s.world n ≡ false
    no_longer out gone = false_from_ne_true _ (λ lives.
        let unit = test_among (λ u. has u n) s.world.units lives in
        part unit.0 unit.1 unit.2 (is_marked s.marks unit.0) refl)
      where
        part : (u : List Name) → Among s.world.units u → has u n ≡ true → (t : Bool) → is_marked s.marks u ≡ t → ⊥
        part u k h true e = both_ways (in_world w' n) out (among_test (λ u. has u n) (filter (is_marked s.marks) s.world.units) u (filter_among (is_marked s.marks) s.world.units u k e) h)
        part u k h false e = both_ways (is_removed w' n) gone (is_named ∙ has-members (white_units s.marks s.world) n
            ∙ among_test (λ u. has u n) (white_units s.marks s.world) u (filter_among (λ u. not (is_marked s.marks u)) s.world.units u k (rw e refl)) h)

-- one removed object comes to another stage
staged_stage : (w : World) (of : Name) (old new : Stage) (n : Name) (b f x y : ℕ) → IsMade w of → (in_world w of ≡ true → ⊥) → is_at w old of ≡ true
    → (is_at (at_stage w of new) Removed of ≡ true → Counts (b + x) (f + y) 0 0) → (is_at (at_stage w of new) Begun of ≡ true → Counts (b + x) (f + y) 1 0)
    → (is_at (at_stage w of new) Finished of ≡ true → Counts (b + x) (f + y) 1 1)
    → same_name of n ≡ true → IsStaged (at_stage w of new) n (b + x) (f + y)
staged_stage w of old new n b f x y made out is removed begun finished same =
    subst (λ (m : Name). IsStaged (at_stage w of new) m (b + x) (f + y)) (same_name_true of n same)
    (at_one (at_stage w of new) of new (b + x) (f + y) made out (named_kept of (λ r. record r { stage = new }) (λ r. refl) w.removals of ∙ in_removals_at w old of is) removed begun finished)

-- another object than the one that comes to another stage
staged_other : (w : World) (of : Name) (new : Stage) (n : Name) (b f : ℕ) → same_name of n ≡ false → IsStaged w n b f → IsStaged (at_stage w of new) n (b + 0) (f + 0)
staged_other w of new n b f other h =
    stays w (at_stage w of new) n b f (b + 0) (f + 0) (λ m. m) (λ m. m) refl (named_kept of (λ r. record r { stage = new }) (λ r. refl) w.removals n)
    (λ stage. is_at-at_stage_other w of new stage n other) (plus_none b) (plus_none f) h

pub flip_name : (a b : Name) (t : Bool) → same_name a b ≡ t → same_name b a ≡ t
flip_name a b true e = subst (λ (x : Name). same_name b x ≡ true) (sym (same_name_true a b e)) (same_name_refl b)
flip_name a b false e = false_from_ne_true _ (λ k. both_ways _ e (subst (λ (x : Name). same_name a x ≡ true) (sym (same_name_true b a k)) (same_name_refl a)))

staged_begun : (z : Sizes) (s : State) (p : Pass) (of n : Name) (b f : ℕ) → MayBy z s p (act.Begun of) → IsSound s → IsStaged s.world n b f
    → IsStaged (at_stage s.world of Begun) n (b + cond (same_name n of) 1 0) (f + 0)
staged_begun z s p of n b f may known h = go (same_name of n) refl
  where
    is : is_at s.world Removed of ≡ true
    is = (find_some (is_at s.world Removed) _ of (begins_may z s p of may).next).1

    gone : is_removed s.world of ≡ true
    gone = in_removals_at s.world Removed of is

    go : (t : Bool) → same_name of n ≡ t → IsStaged (at_stage s.world of Begun) n (b + cond (same_name n of) 1 0) (f + 0)
    go false e = rw (flip_name of n false e) (staged_other s.world of Begun n b f e h)
    go true e =
        let zero = h.removed (subst (λ (m : Name). is_at s.world Removed m ≡ true) (same_name_true of n e) is) in
        rw (flip_name of n true e)
        (staged_stage s.world of Removed Begun n b f 1 0 (made_removed s.world known.once of gone) (λ lives. not_both s.world known.once of lives gone) is
        (λ k. absurd (both_ways _ (is_at-at_stage_same s.world of Begun Removed) k)) (λ k. (omega (arith, zero.0), omega (arith, zero.1)))
        (λ k. absurd (both_ways _ (is_at-at_stage_same s.world of Begun Finished) k)) e)

staged_finished : (z : Sizes) (s : State) (p : Pass) (of n : Name) (b f : ℕ) → MayBy z s p (act.Finished of) → IsSound s → IsStaged s.world n b f
    → IsStaged (at_stage s.world of Finished) n (b + 0) (f + cond (same_name n of) 1 0)
staged_finished z s p of n b f may known h = go (same_name of n) refl
  where
    is : is_at s.world Begun of ≡ true
    is = known.agreed.begun of (finishes_may z s p of may)

    gone : is_removed s.world of ≡ true
    gone = in_removals_at s.world Begun of is

    go : (t : Bool) → same_name of n ≡ t → IsStaged (at_stage s.world of Finished) n (b + 0) (f + cond (same_name n of) 1 0)
    go false e = rw (flip_name of n false e) (staged_other s.world of Finished n b f e h)
    go true e =
        let one = h.begun (subst (λ (m : Name). is_at s.world Begun m ≡ true) (same_name_true of n e) is) in
        rw (flip_name of n true e)
        (staged_stage s.world of Begun Finished n b f 0 1 (made_removed s.world known.once of gone) (λ lives. not_both s.world known.once of lives gone) is
        (λ k. absurd (both_ways _ (is_at-at_stage_same s.world of Finished Removed) k))
        (λ k. absurd (both_ways _ (is_at-at_stage_same s.world of Finished Begun) k)) (λ k. (omega (arith, one.0), omega (arith, one.1))) e)

staged_released : (z : Sizes) (s : State) (p : Pass) (of n : Name) (b f : ℕ) → MayBy z s p (act.Released of) → IsSound s → IsStaged s.world n b f
    → IsStaged (released s.world of) n (b + 0) (f + 0)
staged_released z s p of n b f may known h = go (has unit.0 n) refl
  where
    w : World
    w = s.world

    unit : (u : List Name) × Among w.last_removed u × (list_all (is_at w Finished) u ≡ true) × ((m : Name) → has (released_by w of) m ≡ has u m)
    unit = released_unit w of known.destroying.units_different (releases_may z s p of may).next

    go : (t : Bool) → has unit.0 n ≡ t → IsStaged (released w of) n (b + 0) (f + 0)
    go false e =
        stays w (released w of) n b f (b + 0) (f + 0) (λ m. m) (λ m. m) refl (left_after w of n ∙ (rw (unit.3 n ∙ e) refl))
        (λ stage. is_at-released w of stage n ∙ (rw (unit.3 n ∙ e) refl)) (plus_none b) (plus_none f) h
    go true e =
        let is = all_at (is_at w Finished) unit.0 n unit.2 (has_among unit.0 n e) in
        let one = h.finished is in
        let counts : Counts (b + 0) (f + 0) 1 1 = (plus_none b ∙ one.0, plus_none f ∙ one.1) in
        let gone = in_removals_at w Finished n is in
        let none : (stage : Stage) → is_at (released w of) stage n ≡ false = λ stage. is_at-released w of stage n ∙ (rw (unit.3 n ∙ e) refl) in
        record {
          unmade = λ no. absurd (no (made_removed w known.once n gone));
          living = λ lives. absurd (not_both w known.once n lives gone);
          removed = λ k. absurd (both_ways _ (none Removed) k);
          begun = λ k. absurd (both_ways _ (none Begun) k);
          finished = λ k. counts;
          released = λ m out k. counts;
        }

next_staged : (z : Sizes) (s : State) (p : Pass) (a : Act) (n : Name) (b f : ℕ) → MayBy z s p a → IsSound s → IsStaged s.world n b f
    → IsStaged (next_world s.marks s.world p a) n (b + cond (begins n a) 1 0) (f + cond (finishes n a) 1 0)
next_staged z s p (act.Make kinds first) n b f may known h = staged_make z s p kinds first n b f may known h
next_staged z s p (act.CommitGc commit.Done) n b f may known h = staged_commit z s p n b f may known h
next_staged z s p (act.Begun of) n b f may known h = staged_begun z s p of n b f may known h
next_staged z s p (act.Finished of) n b f may known h = staged_finished z s p of n b f may known h
next_staged z s p (act.Asked of poll answer) n b f may known h =
    stays s.world (polled s.world of poll) n b f (b + 0) (f + 0) (λ m. m) (λ m. m) refl (named_kept of (λ r. record r { polls = poll }) (λ r. refl) s.world.removals n)
    (λ stage. is_at-polled s.world of poll stage n) (plus_none b) (plus_none f) h
next_staged z s p (act.Released of) n b f may known h = staged_released z s p of n b f may known h
next_staged z s p (act.Loose of) n b f may known h = stays s.world _ n b f (b + 0) (f + 0) (λ m. m) (λ m. m) (lives_loose s.world of n) refl (λ stage. refl) (plus_none b) (plus_none f) h
next_staged z s p (act.BeginGc begin.Started) n b f may known h = stays s.world _ n b f (b + 0) (f + 0) (λ m. m) (λ m. m) refl refl (λ stage. refl) (plus_none b) (plus_none f) h
next_staged z s p a n b f may known h = stays s.world _ n b f _ _ (λ m. m) (λ m. m) refl refl (λ stage. refl) (plus_none b) (plus_none f) h

-- ---- whole histories

-- what one more entry adds to a count
pub one_counted : (p : Entry → Bool) (xs : List Entry) (e : Entry) → count_by p (xs ++ e ∷ []) ≡ count_by p xs + cond (p e) 1 0
one_counted p xs e = count-append p xs (e ∷ []) ∙ (let one = count-cons p e [] in omega arith)

pub staged : (z : Sizes) (history : List Entry) → Legal z history → (n : Name) → IsStaged (after history) n (times_begun history n) (times_finished history n)
staged z history legal n = by_entries z (λ xs. IsStaged (after xs) n (times_begun xs n) (times_finished xs n)) first step history legal
  where
    first : IsStaged (after []) n 0 0
    first = record {
      unmade = λ no. (refl, refl);
      living = λ is. absurd cc;
      removed = λ is. absurd cc;
      begun = λ is. absurd cc;
      finished = λ is. absurd cc;
      released = λ m. absurd (omega (arith, m.0, m.1));
    }

    step : (xs : List Entry) (e : Entry) → Legal z xs → May z (state_of xs) e → IsStaged (after xs) n (times_begun xs n) (times_finished xs n)
        → IsStaged (after (xs ++ e ∷ [])) n (times_begun (xs ++ e ∷ []) n) (times_finished (xs ++ e ∷ []) n)
    step xs e legal may h =
        let new = next_staged z (state_of xs) e.pass e.act n (times_begun xs n) (times_finished xs n) may (sound z xs legal) h in
        subst (λ (s : State). IsStaged s.world n (times_begun (xs ++ e ∷ []) n) (times_finished (xs ++ e ∷ []) n)) (sym (one_more xs e))
        (subst (λ (b : ℕ). IsStaged (next (state_of xs) e).world n b (times_finished (xs ++ e ∷ []) n)) (sym (one_counted (λ e. begins n e.act) xs e))
        (subst (λ (f : ℕ). IsStaged (next (state_of xs) e).world n (times_begun xs n + cond (begins n e.act) 1 0) f) (sym (one_counted (λ e. finishes n e.act) xs e)) new))

pub destroyed_by_stage_holds : DestroyedByStage
destroyed_by_stage_holds z history legal n =
    let h = staged z history legal n in
    record {
      unmade = λ no. both (h.unmade no);
      living = λ is. both (h.living is);
      removed = λ is. both (h.removed is);
      begun = λ is. both (h.begun is);
      finished = λ is. both (h.finished is);
      released = λ m out gone. both (h.released m out gone);
    }
  where
    both : {k l : ℕ} → Counts (times_begun history n) (times_finished history n) k l → WasDestroyed history n k l
    both c = record { begun_is = c.0; finished_is = c.1 }

-- of each world that is staged: begun once at most, and finished no more often
pub once_at_most : (w : World) (n : Name) (b f : ℕ) → IsStaged w n b f → (b ≤ 1) × (f ≤ b)
once_at_most w n b f h = go (in_world w n) refl (is_removed w n) refl
  where
    below : {k l : ℕ} → k ≤ 1 → l ≤ k → Counts b f k l → (b ≤ 1) × (f ≤ b)
    below x y c = (omega (arith, x, c.0), omega (arith, y, c.0, c.1))

    gone : is_removed w n ≡ true → (r : Bool) → is_at w Removed n ≡ r → (t : Bool) → is_at w Begun n ≡ t → (b ≤ 1) × (f ≤ b)
    gone k true e t g = below (omega arith) (omega arith) (h.removed e)
    gone k false e true g = below (omega arith) (omega arith) (h.begun g)
    gone k false e false g = below (omega arith) (omega arith) (h.finished (last_stage n w.removals k e g))

    away : in_world w n ≡ false → is_removed w n ≡ false → (n.count < 1) ⊎ (1 ≤ n.count) → (made w n.lane < n.count) ⊎ (n.count ≤ made w n.lane) → (b ≤ 1) × (f ≤ b)
    away out none (inl low) top = below (omega arith) (omega arith) (h.unmade (λ m. absurd (omega (arith, m.0))))
    away out none (inr some) (inl high) = below (omega arith) (omega arith) (h.unmade (λ m. absurd (omega (arith, m.1))))
    away out none (inr some) (inr within) = below (omega arith) (omega arith) (h.released (some, within) out none)

    go : (l : Bool) → in_world w n ≡ l → (r : Bool) → is_removed w n ≡ r → (b ≤ 1) × (f ≤ b)
    go true e r g = below (omega arith) (omega arith) (h.living e)
    go false e true g = gone g (is_at w Removed n) refl (is_at w Begun n) refl
    go false e false g = away e g (cases_lt n.count 1) (cases_lt (made w n.lane) n.count)

pub destroyed_once_holds : DestroyedOnce
destroyed_once_holds z history legal n = once_at_most (after history) n (times_begun history n) (times_finished history n) (staged z history legal n)

pub all_begun_first_holds : AllBegunFirst
all_begun_first_holds z history legal n m removed gone =
    let first = (sound z history legal).destroying.all_first n m removed gone in
    go first.0 first.1 (is_at (after history) Removed m) refl (is_at (after history) Begun m) refl
  where
    h : IsStaged (after history) m (times_begun history m) (times_finished history m)
    h = staged z history legal m

    go : is_removed (after history) m ≡ true → is_at (after history) Finished m ≡ false → (r : Bool) → is_at (after history) Removed m ≡ r
        → (t : Bool) → is_at (after history) Begun m ≡ t → times_finished history m ≡ 0
    go k unfinished true e t g = (h.removed e).1
    go k unfinished false e true g = (h.begun g).1
    go k unfinished false e false g = absurd (both_ways _ unfinished (last_stage m (after history).removals k e g))

pub released_before_start_holds : ReleasedBeforeStart
released_before_start_holds z history legal marking = (sound z history legal).destroying.unmarked marking

-- ---- the objects of the last removal

gone_next : (z : Sizes) (s : State) (p : Pass) (a : Act) → MayBy z s p a → IsSound (next_by s (next_world s.marks s.world p a) p a)
    → ((n : Name) → has (members s.world.last_removed) n ≡ true → IsMade s.world n × (in_world s.world n ≡ false))
    → (n : Name) → has (members (next_world s.marks s.world p a).last_removed) n ≡ true → IsMade (next_world s.marks s.world p a) n × (in_world (next_world s.marks s.world p a) n ≡ false)
gone_next z s p (act.CommitGc commit.Done) may known h n k =
    let now : World = next_world s.marks s.world p (act.CommitGc commit.Done) in
    let is_named : is_removed now n ≡ true = sym (named_any n now.removals) ∙ ap (λ (ns : List Name). has ns n) (known.destroying.all_there refl) ∙ k in
    (made_removed now known.once n is_named, false_from_ne_true _ (λ lives. not_both now known.once n lives is_named))
gone_next z s p (act.BeginGc begin.Started) may known h n k = h n k
gone_next z s p a may known h n k = (made_stays s p a n (h n k).0, false_from_ne_true _ (λ lives. again (lived s p a n lives)))
  where
    again : (in_world s.world n ≡ true) ⊎ (has (made_by p a) n ≡ true) → ⊥
    again (inl lives) = both_ways _ (h n k).1 lives
    again (inr new) = (is_new z s p a n may new).0 (h n k).0

-- they were made, and do not live
pub gone : (z : Sizes) (history : List Entry) → Legal z history → (n : Name) → has (members (after history).last_removed) n ≡ true → IsMade (after history) n × (in_world (after history) n ≡ false)
gone z = by_states z (λ s. (n : Name) → has (members s.world.last_removed) n ≡ true → IsMade s.world n × (in_world s.world n ≡ false)) (λ n k. absurd cc)
    (λ xs e legal may h. gone_next z (state_of xs) e.pass e.act may (next_sound z (state_of xs) e may (sound z xs legal)) h)

pub begun_when_finished_holds : BegunWhenFinished
begun_when_finished_holds z history of legal n k =
    let parts = (histories_join.one_more z history (entry Collector (act.Finished of))).0 legal in
    go (staged z history parts.0 n) (gone z history parts.0 n k) ((sound z history parts.0).agreed.none_removed of parts.1.finishes n)
    (is_removed (after history) n) refl (is_at (after history) Begun n) refl
  where
    go : IsStaged (after history) n (times_begun history n) (times_finished history n) → IsMade (after history) n × (in_world (after history) n ≡ false) → is_at (after history) Removed n ≡ false
        → (r : Bool) → is_removed (after history) n ≡ r → (t : Bool) → is_at (after history) Begun n ≡ t → times_begun history n ≡ 1
    go h dead unbegun false e t g = (h.released dead.0 dead.1 e).0
    go h dead unbegun true e true g = (h.begun g).0
    go h dead unbegun true e false g = (h.finished (last_stage n (after history).removals e unbegun g)).0

pub released_whole_holds : ReleasedWhole
released_whole_holds z history of legal =
    let parts = (histories_join.one_more z history (entry Collector (act.Released of))).0 legal in
    let unit = released_unit (after history) of (sound z history parts.0).destroying.units_different parts.1.may.next in
    record {
      unit = unit.0;
      is_removed_unit = among_contains _ unit.0 unit.1;
      whole = λ n. (leaves unit.0 unit.2 unit.3 n, was_in unit.0 unit.3 n);
      destroyed = λ n k. (destroyed_by_stage_holds z history parts.0 n).finished (all_at (is_at (after history) Finished) unit.0 n unit.2 (has_among unit.0 n k));
    }
  where
    w : World
    w = after history

    names : freed_by w (act.Released of) ≡ filter (has (released_by w of)) (names_of w.removals)
    names = names_filter (has (released_by w of)) w.removals

    leaves : (u : List Name) → list_all (is_at w Finished) u ≡ true → ((n : Name) → has (released_by w of) n ≡ has u n) → (n : Name) → has u n ≡ true → has (freed_by w (act.Released of)) n ≡ true
    leaves u all same n k =
        let removed = in_removals_at w Finished n (all_at (is_at w Finished) u n all (has_among u n k)) in
        ap (λ (ns : List Name). has ns n) names
        ∙ among_has (filter (has (released_by w of)) (names_of w.removals)) n
        (filter_among (has (released_by w of)) (names_of w.removals) n (has_among (names_of w.removals) n (named_any n w.removals ∙ removed))
        (same n ∙ k))

    was_in : (u : List Name) → ((n : Name) → has (released_by w of) n ≡ has u n) → (n : Name) → has (freed_by w (act.Released of)) n ≡ true → has u n ≡ true
    was_in u same n k =
        sym (same n) ∙ among_filter_test (has (released_by w of)) (names_of w.removals) n
        (has_among (filter (has (released_by w of)) (names_of w.removals)) n (ap (λ (ns : List Name). has ns n) (sym names) ∙ k))
