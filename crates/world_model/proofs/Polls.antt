-- The polls of an object are numbered, and it is finished directly behind the one in which it agreed.
use Rattle.std.proofs.Common.{◌≡◌, ◌≢◌, ℕ, ◌+◌, min, refl, sym, subst, ap, ◌∙◌, inl, inr, arith, Bool, cond, true, false, List, [], ◌∷◌, ◌++◌, map, append_assoc, Some, ◌⊎◌}
use Rattle.std.specs.List.{list_any, find, AllByRecursion}
use Rattle.std.specs.Option.{option_map_or}
use Rattle.std.proofs.lemmas.Bool.{both_ways, false_from_ne_true}
use Rattle.world_model.specs.Types.{Name, Pass, Lane, Marker, Collector, Act, Entry}
use Rattle.world_model.specs.Types.act
use Rattle.world_model.specs.Types.begin
use Rattle.world_model.specs.Types.commit
use Rattle.world_model.specs.Sizes.{Sizes}
use Rattle.world_model.specs.NameLists.{same_name, has, members}
use Rattle.world_model.specs.World.{World, Removal, Removed, Begun, Finished, unit_of, in_world, is_at, polls_of}
use Rattle.world_model.specs.State.{State, IsMarked, is_marked, white_units}
use Rattle.world_model.specs.Next.{next_world, next, own_collecting}
use Rattle.world_model.specs.Histories.{MayBy, May, Legal, state_of, after}
use Rattle.world_model.specs.Follows.{entry, IsMade, is_done, is_removed, made_by, freed_by, asks, times_asked, EndsWith, FinishedBehindPoll, PollsAreNumbered}
use Rattle.world_model.proofs.ListFacts.{filter_among}
use Rattle.world_model.proofs.NameFacts.{same_name_true, has_among, among_has}
use Rattle.world_model.proofs.Joins.{histories_join, legal_join}
use Rattle.world_model.proofs.Rounds.{named, in_removals_at, released_by, polls_of-at_stage, polls_of-polled_same, polls_of-polled_other, polls_of-released}
use Rattle.world_model.proofs.Queues.{find_some, named_any}
use Rattle.world_model.proofs.Inductions.{by_entries, one_more}
use Rattle.world_model.proofs.Counts.{names_of, names_filter}
use Rattle.world_model.proofs.Sound.{IsSound, sound, not_both, made_removed, made_stays, is_new, commits_may}
use Rattle.world_model.proofs.Removals.{lives_after_holds}
use Rattle.world_model.proofs.Afters.{removed_after_holds}
use Rattle.world_model.proofs.Stages.{flip_name, one_counted}

-- ---- numbers of polls

-- so often was an object asked, by the place where it is
pub record IsPolled (w : World) (n : Name) (count : ℕ) : Type 0 where
  pub unmade : (IsMade w n → ⊥) → count ≡ 0
  pub living : in_world w n ≡ true → count ≡ 0
  pub removed : is_removed w n ≡ true → polls_of w n ≡ min count 65535

-- who may be asked is begun
asked_begun : (z : Sizes) (s : State) (p : Pass) (of : Name) (poll : ℕ) (answer : Bool) → MayBy z s p (act.Asked of poll answer)
    → (is_at s.world Begun of ≡ true) × (poll ≡ min (polls_of s.world of + 1) 65535)
asked_begun z s Collector of poll answer may = ((find_some (is_at s.world Begun) _ of may.may.next).1, may.may.number)
asked_begun z s (Lane lane) of poll answer may = absurd may.may
asked_begun z s (Marker marker) of poll answer may = absurd may.may

-- newly removed objects have no polls
abbrev new : Name → Removal
new m = record { name = m; stage = Removed; polls = 0 }

no_polls : (n : Name) (ns : List Name) → option_map_or {T = Removal} (λ r. r.polls) (find (named n) (map new ns)) 0 ≡ 0
no_polls n [] = refl
no_polls n (m ∷ ns) = go (same_name n m) (no_polls n ns)
  where
    go : (b : Bool) → option_map_or {T = Removal} (λ r. r.polls) (find (named n) (map new ns)) 0 ≡ 0
        → option_map_or {T = Removal} (λ r. r.polls) (cond b (Some (new m)) (find (named n) (map new ns))) 0 ≡ 0
    go true rest = refl
    go false rest = rest

-- what stays removed keeps its polls, but for the object that is asked
polls_stay : (z : Sizes) (s : State) (p : Pass) (a : Act) (n : Name) → MayBy z s p a → IsSound s → asks n a ≡ false → is_removed s.world n ≡ true → has (freed_by s.world a) n ≡ false
    → polls_of (next_world s.marks s.world p a) n ≡ polls_of s.world n
polls_stay z s p (act.CommitGc commit.Done) n may known other is kept =
    absurd (both_ways (is_removed s.world n) (ap (list_any (named n)) (known.destroying.unmarked (commits_may z s p may).marking)) is)
polls_stay z s p (act.Begun of) n may known other is kept = polls_of-at_stage s.world of Begun n
polls_stay z s p (act.Finished of) n may known other is kept = polls_of-at_stage s.world of Finished n
polls_stay z s p (act.Asked of poll answer) n may known other is kept = polls_of-polled_other s.world of poll n (flip_name n of false other)
polls_stay z s p (act.Released of) n may known other is kept = polls_of-released s.world of n (false_from_ne_true _ (λ out. both_ways _ kept
    (ap (λ (ns : List Name). has ns n) (names_filter (has (released_by s.world of)) s.world.removals)
    ∙ among_has _ n (filter_among (has (released_by s.world of)) (names_of s.world.removals) n (has_among (names_of s.world.removals) n (named_any n s.world.removals ∙ is)) out))))
polls_stay z s p (act.BeginGc begin.Started) n may known other is kept = refl
polls_stay z s p _ n may known other is kept = refl

pub polled_in : (z : Sizes) (history : List Entry) → Legal z history → (n : Name) → IsPolled (after history) n (times_asked history n)
polled_in z history legal n = by_entries z (λ xs. IsPolled (after xs) n (times_asked xs n)) first step history legal
  where
    first : IsPolled (after []) n 0
    first = record { unmade = λ no. refl; living = λ is. absurd cc; removed = λ is. absurd cc }

    step : (xs : List Entry) (e : Entry) → Legal z xs → May z (state_of xs) e → IsPolled (after xs) n (times_asked xs n) → IsPolled (after (xs ++ e ∷ [])) n (times_asked (xs ++ e ∷ []) n)
    step xs e legal may h =
        subst (λ (k : ℕ). IsPolled (after (xs ++ e ∷ [])) n k) (sym (one_counted (λ e. asks n e.act) xs e)) (go (asks n e.act) refl)
      where
        s : State
        s = state_of xs

        known : IsSound s
        known = sound z xs legal

        longer : Legal z (xs ++ e ∷ [])
        longer = legal_join z _ xs (e ∷ []) legal (may, tt)

        now : after (xs ++ e ∷ []) ≡ next_world s.marks s.world e.pass e.act
        now = ap (λ (t : State). t.world) (one_more xs e)

        go : (b : Bool) → asks n e.act ≡ b → IsPolled (after (xs ++ e ∷ [])) n (times_asked xs n + cond b 1 0)
        go true is = subst (λ (w : World). IsPolled w n (times_asked xs n + 1)) (sym now) (asked e.pass e.act is may)
          where
            asked : (p : Pass) (a : Act) → asks n a ≡ true → MayBy z s p a → IsPolled (next_world s.marks s.world p a) n (times_asked xs n + 1)
            asked p (act.Asked of poll answer) is may =
                let begun = asked_begun z s p of poll answer may in
                let gone : is_removed s.world of ≡ true = in_removals_at s.world Begun of begun.0 in
                let same : of ≡ n = sym (same_name_true n of is) in
                let number = begun.1 in
                let was : polls_of s.world of ≡ min (times_asked xs n) 65535 =
                subst (λ (m : Name). is_removed s.world m ≡ true → polls_of s.world m ≡ min (times_asked xs n) 65535) (sym same) h.removed gone in
                let is_now = polls_of-polled_same s.world of poll in
                let polls : polls_of (next_world s.marks s.world p (act.Asked of poll answer)) of ≡ poll = is_now ∙ (rw gone refl) in
                subst (λ (m : Name). IsPolled (next_world s.marks s.world p (act.Asked of poll answer)) m (times_asked xs n + 1)) same record {
                  unmade = λ no. absurd (no (made_removed s.world known.once of gone));
                  living = λ lives. absurd (not_both s.world known.once of lives gone);
                  removed = λ k. omega arith;
                }
            asked p _ is may = absurd cc
        go false out = record {
          unmade = λ no. let none = h.unmade (λ made. no (subst (λ (w : World). IsMade w n) (sym now) (made_stays s e.pass e.act n made))) in omega arith;
          living = λ lives. let none = lived ((lives_after_holds z xs e longer n).0 lives) in omega arith;
          removed = λ is. let polls = still ((removed_after_holds z xs e longer n).0 is) in omega arith;
        }
          where
            lived : (has (made_by e.pass e.act) n ≡ true) ⊎ ((in_world s.world n ≡ true) × (is_done e.act ≡ true → IsMarked s n)) → times_asked xs n ≡ 0
            lived (inl made) = h.unmade (is_new z s e.pass e.act n may made).0
            lived (inr old) = h.living old.0

            still : ((is_done e.act ≡ true) × (in_world s.world n ≡ true) × (is_marked s.marks (unit_of s.world n) ≡ false))
                ⊎ ((is_removed s.world n ≡ true) × (has (freed_by s.world e.act) n ≡ false))
                → polls_of (after (xs ++ e ∷ [])) n ≡ min (times_asked xs n) 65535
            still (inl new) = ap (λ (w : World). polls_of w n) now ∙ none e.act new.0 ∙ (let zero = h.living new.1 in omega arith)
              where
                none : (a : Act) → is_done a ≡ true → polls_of (next_world s.marks s.world e.pass a) n ≡ 0
                none (act.CommitGc commit.Done) is = no_polls n (members (white_units s.marks s.world))
                none _ is = absurd cc
            still (inr old) = ap (λ (w : World). polls_of w n) now ∙ polls_stay z s e.pass e.act n may known out old.0 old.1 ∙ h.removed old.0

pub polls_are_numbered_holds : PollsAreNumbered
polls_are_numbered_holds z history of poll answer legal =
    let parts = (histories_join.one_more z history _).0 legal in
    let begun = asked_begun z (state_of history) Collector of poll answer parts.1 in
    let polls = (polled_in z history parts.0 of).removed (in_removals_at (after history) Begun of begun.0) in
    let number = begun.1 in
    omega arith

-- ---- who agreed

-- who agreed was asked by the collector's last entry
abbrev AgreedBehind : List Entry → Type 0
AgreedBehind history = (n : Name) → (state_of history).collector.agreed ≡ Some n → (poll : ℕ) × EndsWith history (act.Asked n poll true)

pub finished_behind_poll_holds : FinishedBehindPoll
finished_behind_poll_holds z history of legal =
    let parts = (histories_join.one_more z history _).0 legal in
    by_entries z AgreedBehind first step history parts.0 of parts.1.finishes
  where
    first : AgreedBehind []
    first n e = absurd cc

    step : (xs : List Entry) (e : Entry) → Legal z xs → May z (state_of xs) e → AgreedBehind xs → AgreedBehind (xs ++ e ∷ [])
    step xs e legal may h n agreed = go e.pass e.act refl (ap (λ (s : State). s.collector.agreed) (sym (one_more xs e)) ∙ agreed)
      where
        mine : (a : Act) → e ≡ entry Collector a → (own_collecting (state_of xs).collector a).agreed ≡ Some n → (poll : ℕ) × EndsWith (xs ++ e ∷ []) (act.Asked n poll true)
        mine (act.Asked m poll true) is k = (
          poll,
          record {
            front = xs;
            others = [];
            are = ap (λ (x : Entry). xs ++ x ∷ []) (is ∙ ap (λ (o : Name). entry Collector (act.Asked o poll true)) cc);
            other = tt;
          },
        )
        mine (act.Asked m poll false) is k = absurd cc
        mine (act.BeginGc begin.Started) is k = absurd cc
        mine _ is k = absurd cc

        behind : e.pass ≢ Collector → (state_of xs).collector.agreed ≡ Some n → (poll : ℕ) × EndsWith (xs ++ e ∷ []) (act.Asked n poll true)
        behind other k =
            let was = h n k in (
              was.0,
              record {
                front = was.1.front;
                others = was.1.others ++ e ∷ [];
                are = ap (λ (ys : List Entry). ys ++ e ∷ []) was.1.are ∙ append_assoc was.1.front (entry Collector (act.Asked n was.0 true) ∷ was.1.others) (e ∷ []);
                other = all_more was.1.others was.1.other;
              },
            )
          where
            all_more : (ys : List Entry) → AllByRecursion (λ x. x.pass ≢ Collector) ys → AllByRecursion (λ x. x.pass ≢ Collector) (ys ++ e ∷ [])
            all_more [] all = (other, tt)
            all_more (y ∷ ys) all = (all.0, all_more ys all.1)

        go : (p : Pass) (a : Act) → e ≡ entry p a → (next (state_of xs) (entry p a)).collector.agreed ≡ Some n → (poll : ℕ) × EndsWith (xs ++ e ∷ []) (act.Asked n poll true)
        go Collector a is k = mine a is k
        go (Lane lane) a is k = behind (λ same. let wrong : Lane lane ≡ Collector = sym (ap (λ (x : Entry). x.pass) is) ∙ same in cc) k
        go (Marker marker) a is k = behind (λ same. let wrong : Marker marker ≡ Collector = sym (ap (λ (x : Entry). x.pass) is) ∙ same in cc) k
