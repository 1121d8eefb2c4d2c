-- The order in which removed objects are begun, and the turns in which they are polled.
use Rattle.std.proofs.Common.{◌≡◌, ℕ, ◌+◌, ◌≤◌, refl, sym, subst, ap, ◌∙◌, inl, inr, arith, Bool, cond, true, false, not, ◌&&◌, List, [], ◌∷◌, ◌++◌, append_assoc, append-nil, Some, ◌⊎◌, filter, find}
use Rattle.std.specs.List.{list_any, list_all}
use Rattle.std.proofs.Math.Bool.{and_comm}
use Rattle.std.proofs.lemmas.Bool.{both_ways, not-true, not_from_false, false_from_ne_true, and_from, or_left}
use Rattle.std.proofs.lemmas.List.Elements.{filter-append}
use Rattle.std.proofs.lemmas.List.Concat.{flat_map-append}
use Rattle.std.proofs.lemmas.List.Folds.{list_any-append}
use Rattle.world_model.specs.Types.{Name, SweepStop, Gathering, Pass, Lane, Marker, Collector, Act, Entry}
use Rattle.world_model.specs.Types.act
use Rattle.world_model.specs.Types.begin
use Rattle.world_model.specs.Types.commit
use Rattle.world_model.specs.Types.sweep
use Rattle.world_model.specs.Sizes.{Sizes}
use Rattle.world_model.specs.NameLists.{same_name, has, all_different, members, begins_with, first_member}
use Rattle.world_model.specs.World.{World, Removal, Stage, Removed, Begun, Finished, has_stage, in_world, is_at, destruction_order}
use Rattle.world_model.specs.State.{State, white_units}
use Rattle.world_model.specs.Next.{next_world, next_by, next, at_stage, polled}
use Rattle.world_model.specs.CollectorSteps.{SweepMay, round_from, Asks}
use Rattle.world_model.specs.Histories.{MayBy, May, Legal, state_of, after}
use Rattle.world_model.specs.Follows.{entry, begins, asks, times_asked, times_begun, IsMade, is_removed, BegunInOrder, AskedInTurn}
use Rattle.world_model.specs.DestructionQueue.{rotated, in_order}
use Rattle.world_model.proofs.ListFacts.{and_true, or_right, Among, among_append, among_filter, among_filter_test, filter_among, among_right}
use Rattle.world_model.proofs.NameFacts.{same_name_true, same_name_refl, has_among, among_has}
use Rattle.world_model.proofs.Joins.{histories_join}
use Rattle.world_model.proofs.Rounds.{find_in_round, has-rotated, next_round, in_removals_at, is_at-at_stage_same, is_at-at_stage_other, is_at-polled, is_at-released, released_by}
use Rattle.world_model.proofs.Queues.{find_some, second_part, in_one_part, unit_with, member_of, one_unit, unit_in_order, named_any, fresh, last_stage}
use Rattle.world_model.proofs.Inductions.{by_states, by_more, one_more, one_more_of, all_trivial}
use Rattle.world_model.proofs.Counts.{count-append}
use Rattle.world_model.proofs.Destroying.{order_of, among_new, none_to_begin}
use Rattle.world_model.proofs.Sound.{IsSound, sound, begins_may, finishes_may, releases_may}
use Rattle.world_model.proofs.Stages.{destroyed_by_stage_holds, gone, one_counted}

-- ---- no object stands twice in the destruction order

different_join : (ns ms : List Name) → all_different ns ≡ true → all_different ms ≡ true → ((n : Name) → has ns n ≡ true → has ms n ≡ true → ⊥) → all_different (ns ++ ms) ≡ true
different_join [] ms a b apart = b
different_join (m ∷ ns) ms a b apart =
    let parts = and_true _ _ a in
    let none : has ms m ≡ false = false_from_ne_true _ (λ h. apart m (or_left _ _ (same_name_refl m)) h) in
    let out : has ns m ≡ false = not-true _ parts.0 in
    and_from _ _ (not_from_false _ (list_any-append (same_name m) ns ms ∙ (rw (out, none) refl)))
    (different_join ns ms parts.1 b (λ n k l. apart n (or_right (same_name n m) _ k) l))

first_part : (ns ms : List Name) → all_different (ns ++ ms) ≡ true → all_different ns ≡ true
first_part [] ms h = refl
first_part (m ∷ ns) ms h =
    let parts = and_true _ _ h in
    and_from _ _
    (not_from_false _
    (false_from_ne_true _
    (λ k. both_ways (has (ns ++ ms) m) (not-true _ parts.0) (list_any-append (same_name m) ns ms ∙ or_left (has ns m) _ k))))
    (first_part ns ms parts.1)

pub some_units : (p : List Name → Bool) (units : List (List Name)) → all_different (members units) ≡ true → all_different (members (filter p units)) ≡ true
some_units p [] d = refl
some_units p (u ∷ units) d = go (p u) (some_units p units (second_part u (members units) d))
  where
    go : (b : Bool) → all_different (members (filter p units)) ≡ true → all_different (members (cond b (u ∷ filter p units) (filter p units))) ≡ true
    go true rest = different_join u (members (filter p units)) (first_part u (members units) d) rest (λ n k l.
        let v = unit_with (filter p units) n l in
        in_one_part u (members units) n d (has_among u n k) (member_of units v.0 n (among_filter p units v.0 v.1) v.2))
    go false rest = rest

pub begins_both : (n m : Name) (u : List Name) → begins_with n u ≡ true → begins_with m u ≡ true → n ≡ m
begins_both n m [] a b = absurd cc
begins_both n m (x ∷ u) a b = same_name_true n x a ∙ sym (same_name_true m x b)

order_different : (units : List (List Name)) (found : List Name) → all_different (members units) ≡ true → all_different found ≡ true → all_different (members (order_of units found)) ≡ true
order_different units [] d f = refl
order_different units (n ∷ found) d f =
    ap all_different (flat_map-append (λ (u : List Name). u) (filter (begins_with n) units) (order_of units found))
    ∙ different_join (members (filter (begins_with n) units)) (members (order_of units found)) (some_units (begins_with n) units d) (order_different units found d (and_true _ _ f).1) apart
  where
    apart : (m : Name) → has (members (filter (begins_with n) units)) m ≡ true → has (members (order_of units found)) m ≡ true → ⊥
    apart m a b =
        let u = unit_with (filter (begins_with n) units) m a in
        let v = unit_with (order_of units found) m b in
        let placed = unit_in_order units found v.0 v.1 in
        let same : u.0 ≡ v.0 = one_unit units u.0 v.0 m d (among_filter (begins_with n) units u.0 u.1) placed.0 u.2 v.2 in
        let first : begins_with n v.0 ≡ true = ap (begins_with n) (sym same) ∙ among_filter_test (begins_with n) units u.0 u.1 in
        let here : has found n ≡ true = ap (has found) (begins_both n placed.1.0 v.0 first placed.1.1) ∙ among_has found placed.1.0 placed.1.2 in
        both_ways (has found n) (not-true _ (and_true _ _ f).0) here

-- no object is found twice
next_found : (z : Sizes) (s : State) (p : Pass) (a : Act) → MayBy z s p a → all_different s.world.found ≡ true → all_different (next_world s.marks s.world p a).found ≡ true
next_found z s p (act.CommitGc commit.Done) may h = refl
next_found z s p (act.BeginGc begin.Started) may h = h
next_found z s Collector (act.Sweep budget reply names) may h = go reply.stop may.may
  where
    joined : all_different names ≡ true → list_all (λ n. not (has s.world.found n)) names ≡ true → all_different (s.world.found ++ names) ≡ true
    joined a b = different_join s.world.found names h a (λ n k l. both_ways (has s.world.found n) (not-true _ (all_names n (has_among names n l))) k)
      where
        all_names : (n : Name) → Among names n → not (has s.world.found n) ≡ true
        all_names n k = all_in names b k
          where
            all_in : (ns : List Name) → list_all (λ n. not (has s.world.found n)) ns ≡ true → Among ns n → not (has s.world.found n) ≡ true
            all_in [] b k = absurd k
            all_in (m ∷ ns) b (inl e) = ap (λ (x : Name). not (has s.world.found x)) (sym e) ∙ (and_true _ _ b).0
            all_in (m ∷ ns) b (inr k) = all_in ns (and_true _ _ b).1 k

    go : (stop : SweepStop) → SweepMay z s budget reply names stop → all_different (s.world.found ++ names) ≡ true
    go sweep.More may = joined may.0.different may.0.new
    go sweep.Settled may = joined may.0.different may.0.new
    go (sweep.NotGathering phase) may = ap all_different (ap (λ (ns : List Name). s.world.found ++ ns) may.4 ∙ append-nil s.world.found) ∙ h
next_found z s (Lane lane) (act.Sweep budget reply names) may h = absurd may.may
next_found z s (Marker marker) (act.Sweep budget reply names) may h = absurd may.may
next_found z s p a may h = h

-- The destruction order has each object once.
in_order_different : (z : Sizes) (history : List Entry) → Legal z history → all_different (in_order (after history)) ≡ true
in_order_different z history legal =
    order_different (after history).last_removed (after history).found (sound z history legal).destroying.units_different
    (by_states z (λ s. all_different s.world.found ≡ true) refl (λ xs e legal may h. next_found z (state_of xs) e.pass e.act may h) history legal)

-- ---- the first ones are begun

-- of the order the first ones are not Removed any more, and the others are
record IsBegun (rs : List Removal) (order : List Name) : Type 0 where
  front : List Name
  rest : List Name
  are : order ≡ front ++ rest
  passed : (n : Name) → Among front n → list_any (λ r. same_name n r.name && has_stage Removed r.stage) rs ≡ false
  waits : (n : Name) → Among rest n → list_any (λ r. same_name n r.name && has_stage Removed r.stage) rs ≡ true

abbrev BegunOf : World → Type 0
BegunOf w = IsBegun w.removals (in_order w)

-- the first that waits is found
find_behind : {A : Type 0} (p : A → Bool) (front rest : List A) (x : A) → ((y : A) → Among front y → p y ≡ false) → ((y : A) → Among rest y → p y ≡ true)
    → find p (front ++ rest) ≡ Some x → (more : List A) × (rest ≡ x ∷ more)
find_behind {A} p [] [] x none all e = absurd cc
find_behind {A} p [] (y ∷ rest) x none all e = go (p y) (all y (inl refl)) e
  where
    go : (b : Bool) → b ≡ true → cond b (Some y) (find p rest) ≡ Some x → (more : List A) × (y ∷ rest ≡ x ∷ more)
    go true t e = let same : y ≡ x = cc in (rest, ap (λ (z : A). z ∷ rest) same)
    go false t e = absurd cc
find_behind {A} p (y ∷ front) rest x none all e = go (p y) (none y (inl refl)) e (find_behind p front rest x (λ z k. none z (inr k)) all)
  where
    go : (b : Bool) → b ≡ false → cond b (Some y) (find p (front ++ rest)) ≡ Some x → (find p (front ++ rest) ≡ Some x → (more : List A) × (rest ≡ x ∷ more)) → (more : List A) × (rest ≡ x ∷ more)
    go true t e behind = absurd cc
    go false t e behind = behind e

-- what is not Removed stays so where another stage is given
not_again : (w : World) (of n : Name) (new : Stage) → has_stage Removed new ≡ false → is_at w Removed n ≡ false → is_at (at_stage w of new) Removed n ≡ false
not_again w of n new apart out = go (same_name of n) refl
  where
    go : (b : Bool) → same_name of n ≡ b → is_at (at_stage w of new) Removed n ≡ false
    go true e = subst (λ (m : Name). is_at (at_stage w of new) Removed m ≡ false) (same_name_true of n e) (is_at-at_stage_same w of new Removed ∙ (rw apart refl))
    go false e = is_at-at_stage_other w of new Removed n e ∙ out

begun_next : (w : World) (of : Name) → all_different (in_order w) ≡ true → find (is_at w Removed) (in_order w) ≡ Some of → BegunOf w → BegunOf (at_stage w of Begun)
begun_next w of different next h =
    let at = find_behind (is_at w Removed) h.front h.rest of h.passed h.waits (ap (find (is_at w Removed)) (sym h.are) ∙ next) in
    let all : in_order w ≡ h.front ++ of ∷ at.0 = h.are ∙ ap (λ (ns : List Name). h.front ++ ns) at.1 in
    record {
      front = h.front ++ of ∷ [];
      rest = at.0;
      are = all ∙ sym (append_assoc h.front (of ∷ []) at.0);
      passed = λ n k. front n (among_append h.front (of ∷ []) n k);
      waits = λ n k. is_at-at_stage_other w of Begun Removed n (other at.0 all n k) ∙ h.waits n (subst (λ (ns : List Name). Among ns n) (sym at.1) (inr k));
    }
  where
    front : (n : Name) → Among h.front n ⊎ Among (of ∷ []) n → is_at (at_stage w of Begun) Removed n ≡ false
    front n (inl k) = not_again w of n Begun refl (h.passed n k)
    front n (inr (inl e)) = subst (λ (m : Name). is_at (at_stage w of Begun) Removed m ≡ false) e (is_at-at_stage_same w of Begun Removed)
    front n (inr (inr k)) = absurd k

    other : (more : List Name) → in_order w ≡ h.front ++ of ∷ more → (n : Name) → Among more n → same_name of n ≡ false
    other more all n k = false_from_ne_true _ (λ e.
        let tail = second_part h.front (of ∷ more) (ap all_different (sym all) ∙ different) in
        both_ways (has more of) (not-true _ (and_true _ _ tail).0) (among_has more of (subst (λ (m : Name). Among more m) (sym (same_name_true of n e)) k)))

-- while removed objects are gathered none is begun
begun_none : (rs : List Removal) (order : List Name) → ((r : Removal) → Among rs r → r.stage ≡ Removed)
    → ((n : Name) → has order n ≡ true → list_any (λ r. same_name n r.name) rs ≡ true) → IsBegun rs order
begun_none rs order are there = record {
  front = [];
  rest = order;
  are = refl;
  passed = λ n k. absurd k;
  waits = λ n k. fresh n Removed rs are ∙ there n (among_has order n k);
}

next_begun : (z : Sizes) (s : State) (p : Pass) (a : Act) → MayBy z s p a → IsSound s → all_different (in_order s.world) ≡ true → BegunOf s.world → BegunOf (next_world s.marks s.world p a)
next_begun z s p (act.CommitGc commit.Done) may known different h = record { front = []; rest = []; are = refl; passed = λ n k. absurd k; waits = λ n k. absurd k }
next_begun z s p (act.BeginGc begin.Started) may known different h = h
next_begun z s Collector (act.Sweep budget reply names) may known different h = go reply.stop may.may
  where
    gathering : s.world.phase ≡ Gathering → IsBegun s.world.removals (members (order_of s.world.last_removed (s.world.found ++ names)))
    gathering e = begun_none s.world.removals (members (order_of s.world.last_removed (s.world.found ++ names))) (known.destroying.unbegun e) (λ n k.
        let v = unit_with (order_of s.world.last_removed (s.world.found ++ names)) n k in
        sym (named_any n s.world.removals) ∙ ap (λ (ns : List Name). has ns n) (known.destroying.all_there e)
        ∙ member_of s.world.last_removed v.0 n (unit_in_order s.world.last_removed (s.world.found ++ names) v.0 v.1).0 v.2)

    go : (stop : SweepStop) → SweepMay z s budget reply names stop → IsBegun s.world.removals (members (order_of s.world.last_removed (s.world.found ++ names)))
    go sweep.More may = gathering may.0.gathering
    go sweep.Settled may = gathering may.0.gathering
    go (sweep.NotGathering phase) may =
        subst (λ (found : List Name). IsBegun s.world.removals (members (order_of s.world.last_removed found)))
        (sym (ap (λ (ns : List Name). s.world.found ++ ns) may.4 ∙ append-nil s.world.found)) h
next_begun z s (Lane lane) (act.Sweep budget reply names) may known different h = absurd may.may
next_begun z s (Marker marker) (act.Sweep budget reply names) may known different h = absurd may.may
next_begun z s p (act.Begun of) may known different h = begun_next s.world of different (begins_may z s p of may).next h
next_begun z s p (act.Asked of poll answer) may known different h = record {
  front = h.front;
  rest = h.rest;
  are = h.are;
  passed = λ n k. is_at-polled s.world of poll Removed n ∙ h.passed n k;
  waits = λ n k. is_at-polled s.world of poll Removed n ∙ h.waits n k;
}
next_begun z s p (act.Finished of) may known different h = record {
  front = h.front;
  rest = h.rest;
  are = h.are;
  passed = λ n k. not_again s.world of n Finished refl (h.passed n k);
  waits = λ n k. absurd (both_ways _ (known.agreed.none_removed of (finishes_may z s p of may) n) (h.waits n k));
}
next_begun z s p (act.Released of) may known different h = record {
  front = h.front;
  rest = h.rest;
  are = h.are;
  passed = λ n k. is_at-released s.world of Removed n ∙ ap (λ (b : Bool). not (has (released_by s.world of) n) && b) (h.passed n k) ∙ and_comm (not (has (released_by s.world of) n)) false;
  waits = λ n k.
      let m = releases_may z s p of may in
      absurd (both_ways _ (none_to_begin s.world known.destroying m.gathered m.begun n) (h.waits n k));
}
next_begun z s p a may known different h = h

pub begun_in_order_holds : BegunInOrder
begun_in_order_holds z history legal = record {
  front = h.front;
  rest = h.rest;
  order = h.are;
  different = ap all_different (sym h.are) ∙ in_order_different z history legal;
  begun = λ n k. was_begun n (h.passed n (has_among h.front n k)) (ap (λ (ns : List Name). has ns n) h.are ∙ list_any-append (same_name n) h.front h.rest ∙ or_left (has h.front n) _ k);
  waiting = λ n k. ((destroyed_by_stage_holds z history legal n).removed (h.waits n (has_among h.rest n k))).begun_is;
}
  where
    h : BegunOf (after history)
    h = by_states z (λ s. BegunOf s.world) (record { front = []; rest = []; are = refl; passed = λ n k. absurd k; waits = λ n k. absurd k })
        (λ xs e legal may h. next_begun z (state_of xs) e.pass e.act may (sound z xs legal) (in_order_different z xs legal) h) history legal

    was_begun : (n : Name) → is_at (after history) Removed n ≡ false → has (in_order (after history)) n ≡ true → times_begun history n ≡ 1
    was_begun n out k =
        let v = unit_with (destruction_order (after history)) n k in
        let dead = gone z history legal n (member_of (after history).last_removed v.0 n (unit_in_order (after history).last_removed (after history).found v.0 v.1).0 v.2) in
        go dead.0 dead.1 (is_removed (after history) n) refl (is_at (after history) Begun n) refl
      where
        go : IsMade (after history) n → in_world (after history) n ≡ false → (r : Bool) → is_removed (after history) n ≡ r → (t : Bool) → is_at (after history) Begun n ≡ t → times_begun history n ≡ 1
        go made dead false e t g = ((destroyed_by_stage_holds z history legal n).released made dead e).begun_is
        go made dead true e true g = ((destroyed_by_stage_holds z history legal n).begun g).begun_is
        go made dead true e false g = ((destroyed_by_stage_holds z history legal n).finished (last_stage n (after history).removals e out g)).begun_is

-- ---- in turn

-- the objects that are begun and not finished, in the round from behind the one that was asked last
abbrev round : State → List Name
round s = filter (is_at s.world Begun) (rotated s.collector.asked (in_order s.world))

-- in the round, after all that was asked since this object was, stands none, and before it what was not
record IsTurn (s : State) (of : Name) (count : Name → ℕ) : Type 0 where
  rest : List Name
  polled : List Name
  are : round s ≡ rest ++ of ∷ polled
  each : (n : Name) → Among polled n → 1 ≤ count n
  none : (n : Name) → is_at s.world Removed n ≡ false

-- an entry after which fewer are in the round, and else nothing is another
record Goes (s s' : State) : Type 0 where
  keep : Name → Bool
  kept : (n : Name) → is_at s'.world Begun n ≡ (is_at s.world Begun n && keep n)
  order : in_order s'.world ≡ in_order s.world
  asked : s'.collector.asked ≡ s.collector.asked
  none : ((n : Name) → is_at s.world Removed n ≡ false) → (n : Name) → is_at s'.world Removed n ≡ false

filter_twice : {A : Type 0} (p q : A → Bool) (xs : List A) → filter (λ x. p x && q x) xs ≡ filter q (filter p xs)
filter_twice p q [] = refl
filter_twice {A} p q (x ∷ xs) = go (p x) (filter_twice p q xs)
  where
    go : (b : Bool) → filter (λ x. p x && q x) xs ≡ filter q (filter p xs)
        → cond (b && q x) (x ∷ filter (λ x. p x && q x) xs) (filter (λ x. p x && q x) xs) ≡ filter q (cond b (x ∷ filter p xs) (filter p xs))
    go true rest = ap (λ (ys : List A). cond (q x) (x ∷ ys) ys) rest
    go false rest = rest

goes_on : (s s' : State) (of : Name) (count count' : Name → ℕ) → Goes s s' → is_at s'.world Begun of ≡ true → ((n : Name) → count n ≤ count' n) → IsTurn s of count → IsTurn s' of count'
goes_on s s' of count count' g is more h =
    let stays : g.keep of ≡ true = (and_true (is_at s.world Begun of) (g.keep of) (sym (g.kept of) ∙ is)).1 in
    record {
      rest = filter g.keep h.rest;
      polled = filter g.keep h.polled;
      are = (λ i. filter (λ n. g.kept n i) (rotated (g.asked i) (g.order i))) ∙ filter_twice (is_at s.world Begun) g.keep (rotated s.collector.asked (in_order s.world))
          ∙ ap (filter g.keep) h.are ∙ filter-append g.keep h.rest (of ∷ h.polled) ∙ (rw stays refl);
      each = λ n k. let one = h.each n (among_filter g.keep h.polled n k) in let c = more n in omega arith;
      none = g.none h.none;
    }

-- The one that is asked is the first of the round, and then the last.
asked_round : (s : State) (x : Name) (poll : ℕ) → all_different (in_order s.world) ≡ true → Asks s x poll
    → (others : List Name) × (round s ≡ x ∷ others) × (filter (is_at s.world Begun) (rotated (Some x) (in_order s.world)) ≡ others ++ x ∷ []) × (has others x ≡ false)
asked_round s x poll different may =
    let first = begins (round s) (sym (find_in_round (is_at s.world Begun) s.collector.asked (in_order s.world)) ∙ may.next) in
    let then = next_round (is_at s.world Begun) s.collector.asked (in_order s.world) x first.0 different first.1 in
    (first.0, first.1, then.0, then.1)
  where
    begins : (ns : List Name) → first_member ns ≡ Some x → (others : List Name) × (ns ≡ x ∷ others)
    begins [] e = absurd cc
    begins (n ∷ ns) e = let same : n ≡ x = cc in (ns, ap (λ (m : Name). m ∷ ns) same)

-- the state after it
abbrev after_poll : State → Name → ℕ → Bool → State
after_poll s x poll answer = next_by s (polled s.world x poll) Collector (act.Asked x poll answer)

round_after : (s : State) (x : Name) (poll : ℕ) (answer : Bool) (ns : List Name) → filter (is_at s.world Begun) (rotated (Some x) (in_order s.world)) ≡ ns → round (after_poll s x poll answer) ≡ ns
round_after s x poll answer ns e = (λ i. filter (λ n. is_at-polled s.world x poll Begun n i) (rotated (Some x) (in_order s.world))) ∙ e

-- it was asked itself
turn_starts : (s : State) (of : Name) (poll : ℕ) (answer : Bool) (count : Name → ℕ) → all_different (in_order s.world) ≡ true → Asks s of poll
    → IsSound s → IsTurn (after_poll s of poll answer) of count
turn_starts s of poll answer count different may known =
    let turn = asked_round s of poll different may in
    record {
      rest = turn.0;
      polled = [];
      are = round_after s of poll answer (turn.0 ++ of ∷ []) turn.2;
      each = λ n k. absurd k;
      none = λ n. is_at-polled s.world of poll Removed n ∙ none_to_begin s.world known.destroying may.gathered may.begun n;
    }

turn_asked : (s : State) (of x : Name) (poll : ℕ) (answer : Bool) (count : Name → ℕ) → all_different (in_order s.world) ≡ true → Asks s x poll → IsTurn s of count
    → IsTurn (after_poll s x poll answer) of (λ n. count n + cond (same_name n x) 1 0)
turn_asked s of x poll answer count different may h = go (asked_round s x poll different may) h.rest h.are
  where
    none : (n : Name) → is_at (polled s.world x poll) Removed n ≡ false
    none n = is_at-polled s.world x poll Removed n ∙ h.none n

    go : (others : List Name) × (round s ≡ x ∷ others) × (filter (is_at s.world Begun) (rotated (Some x) (in_order s.world)) ≡ others ++ x ∷ []) × (has others x ≡ false)
        → (rest : List Name) → round s ≡ rest ++ of ∷ h.polled → IsTurn (after_poll s x poll answer) of (λ n. count n + cond (same_name n x) 1 0)
    go turn [] are =
        let all : of ∷ h.polled ≡ x ∷ turn.0 = sym are ∙ turn.1 in
        let same : of ≡ x = cc in
        let others : h.polled ≡ turn.0 = cc in
        record {
          rest = h.polled;
          polled = [];
          are = round_after s x poll answer (h.polled ++ of ∷ []) (turn.2 ∙ (λ i. sym others i ++ sym same i ∷ []));
          each = λ n k. absurd k;
          none = none;
        }
    go turn (y ∷ rest) are =
        let all : y ∷ (rest ++ of ∷ h.polled) ≡ x ∷ turn.0 = sym are ∙ turn.1 in
        let others : rest ++ of ∷ h.polled ≡ turn.0 = cc in
        record {
          rest = rest;
          polled = h.polled ++ x ∷ [];
          are = round_after s x poll answer (rest ++ of ∷ (h.polled ++ x ∷ [])) (turn.2 ∙ ap (λ (ns : List Name). ns ++ x ∷ []) (sym others) ∙ append_assoc rest (of ∷ h.polled) (x ∷ []));
          each = λ n k. last n (among_append h.polled (x ∷ []) n k);
          none = none;
        }
      where
        last : (n : Name) → Among h.polled n ⊎ Among (x ∷ []) n → 1 ≤ count n + cond (same_name n x) 1 0
        last n (inl k) = let one = h.each n k in omega arith
        last n (inr (inl e)) = let one : cond {A = ℕ} (same_name n x) 1 0 ≡ 1 = ap (λ (b : Bool). cond {A = ℕ} b 1 0) (ap (same_name n) e ∙ same_name_refl n) in omega arith
        last n (inr (inr k)) = absurd k

-- the entry leaves all as it is
goes_same : (s s' : State) → s'.world.removals ≡ s.world.removals → in_order s'.world ≡ in_order s.world → s'.collector.asked ≡ s.collector.asked → Goes s s'
goes_same s s' same order asked = record {
  keep = λ n. true;
  kept = λ n. ap (λ (rs : List Removal). list_any (λ r. same_name n r.name && has_stage Begun r.stage) rs) same ∙ and_comm true (is_at s.world Begun n);
  order = order;
  asked = asked;
  none = λ h n. ap (λ (rs : List Removal). list_any (λ r. same_name n r.name && has_stage Removed r.stage) rs) same ∙ h n;
}

turn_next : (z : Sizes) (s : State) (p : Pass) (a : Act) (of : Name) (count : Name → ℕ) → MayBy z s p a → IsSound s → all_different (in_order s.world) ≡ true
    → is_at (next_world s.marks s.world p a) Begun of ≡ true → is_at s.world Removed of ≡ false → (is_at s.world Begun of ≡ true → IsTurn s of count)
    → IsTurn (next_by s (next_world s.marks s.world p a) p a) of (λ n. count n + cond (asks n a) 1 0)
turn_next z s p a of count may known different now never h = go p a may now
  where
    through : (p : Pass) (a : Act) → is_at (next_world s.marks s.world p a) Begun of ≡ true → Goes s (next_by s (next_world s.marks s.world p a) p a)
        → IsTurn (next_by s (next_world s.marks s.world p a) p a) of (λ n. count n + cond (asks n a) 1 0)
    through p a now g =
        goes_on s (next_by s (next_world s.marks s.world p a) p a) of count (λ n. count n + cond (asks n a) 1 0) g now (λ n. omega arith) (h (and_true _ _ (sym (g.kept of) ∙ now)).0)

    unbegun : (rs : List Removal) → ((r : Removal) → Among rs r → r.stage ≡ Removed) → list_any (λ r. same_name of r.name && has_stage Begun r.stage) rs ≡ true → ⊥
    unbegun rs are now = both_ways _ (fresh of Begun rs are) now

    go : (p : Pass) (a : Act) → MayBy z s p a → is_at (next_world s.marks s.world p a) Begun of ≡ true → IsTurn (next_by s (next_world s.marks s.world p a) p a) of (λ n. count n + cond (asks n a) 1 0)
    go p (act.CommitGc commit.Done) may now = absurd (unbegun _ (λ r k. among_new (members (white_units s.marks s.world)) r k) now)
    go Collector (act.BeginGc begin.Started) may now = absurd (both_ways _ (ap (list_any (λ (r : Removal). same_name of r.name && has_stage Begun r.stage)) may.may.0.released) now)
    go Collector (act.Sweep budget reply names) may now = swept reply.stop may.may
      where
        w' : State
        w' = next_by s (next_world s.marks s.world Collector (act.Sweep budget reply names)) Collector (act.Sweep budget reply names)

        swept : (stop : SweepStop) → SweepMay z s budget reply names stop → IsTurn w' of (λ n. count n + 0)
        swept sweep.More may = absurd (unbegun s.world.removals (known.destroying.unbegun may.0.gathering) now)
        swept sweep.Settled may = absurd (unbegun s.world.removals (known.destroying.unbegun may.0.gathering) now)
        swept (sweep.NotGathering phase) may =
            through Collector (act.Sweep budget reply names) now
            (goes_same s w' refl
            (ap (λ (found : List Name). members (order_of s.world.last_removed found))
            (ap (λ (ns : List Name). s.world.found ++ ns) may.4 ∙ append-nil s.world.found)) refl)
    go Collector (act.Begun x) may now = absurd (begun (same_name x of) refl)
      where
        waits : is_at s.world Removed x ≡ true
        waits = (find_some (is_at s.world Removed) _ x may.may.next).1

        begun : (b : Bool) → same_name x of ≡ b → ⊥
        begun true e = both_ways (is_at s.world Removed of) never (ap (is_at s.world Removed) (sym (same_name_true x of e)) ∙ waits)
        begun false e = both_ways (is_at s.world Removed x) ((h (sym (is_at-at_stage_other s.world x Begun Begun of e) ∙ now)).none x) waits
    go Collector (act.Asked x poll answer) may now = turn_asked s of x poll answer count different may.may (h (sym (is_at-polled s.world x poll Begun of) ∙ now))
    go Collector (act.Finished x) may now = through Collector (act.Finished x) now record {
      keep = λ n. not (same_name x n);
      kept = λ n. left n (same_name x n) refl;
      order = refl;
      asked = refl;
      none = λ none n. not_again s.world x n Finished refl (none n);
    }
      where
        left : (n : Name) (b : Bool) → same_name x n ≡ b → is_at (at_stage s.world x Finished) Begun n ≡ (is_at s.world Begun n && not b)
        left n true e =
            subst (λ (m : Name). is_at (at_stage s.world x Finished) Begun m ≡ (is_at s.world Begun m && false)) (same_name_true x n e)
            (is_at-at_stage_same s.world x Finished Begun ∙ and_comm false (is_at s.world Begun x))
        left n false e = is_at-at_stage_other s.world x Finished Begun n e ∙ and_comm true (is_at s.world Begun n)
    go Collector (act.Released x) may now = through Collector (act.Released x) now record {
      keep = λ n. not (has (released_by s.world x) n);
      kept = λ n. is_at-released s.world x Begun n ∙ and_comm (not (has (released_by s.world x) n)) (is_at s.world Begun n);
      order = refl;
      asked = refl;
      none = λ none n. is_at-released s.world x Removed n ∙ ap (λ (b : Bool). not (has (released_by s.world x) n) && b) (none n) ∙ and_comm (not (has (released_by s.world x) n)) false;
    }
    go Collector a may now = through Collector a now (goes_same s _ refl refl refl)
    go (Lane lane) (act.BeginGc reply) may now = absurd may.may
    go (Lane lane) (act.Sweep budget reply names) may now = absurd may.may
    go (Lane lane) (act.Begun x) may now = absurd may.may
    go (Lane lane) (act.Asked x poll answer) may now = absurd may.may
    go (Lane lane) (act.Finished x) may now = absurd may.may
    go (Lane lane) (act.Released x) may now = absurd may.may
    go (Lane lane) a may now = through (Lane lane) a now (goes_same s _ refl refl refl)
    go (Marker marker) (act.BeginGc reply) may now = absurd may.may
    go (Marker marker) (act.Sweep budget reply names) may now = absurd may.may
    go (Marker marker) (act.Begun x) may now = absurd may.may
    go (Marker marker) (act.Asked x poll answer) may now = absurd may.may
    go (Marker marker) (act.Finished x) may now = absurd may.may
    go (Marker marker) (act.Released x) may now = absurd may.may
    go (Marker marker) a may now = through (Marker marker) a now (goes_same s _ refl refl refl)

pub asked_in_turn_holds : AskedInTurn
asked_in_turn_holds z before during of poll later answer other legal n ne begun =
    ends (asked_round s of later (in_order_different z (polled_once ++ during) parts.0) parts.1.may) (turn.rest) turn.are
  where
    e : Entry
    e = entry Collector (act.Asked of poll answer)

    polled_once : List Entry
    polled_once = before ++ e ∷ []

    s : State
    s = state_of (polled_once ++ during)

    parts : Legal z (polled_once ++ during) × May z s (entry Collector (act.Asked of later other))
    parts = (histories_join.one_more z (polled_once ++ during) _).0 legal

    once : Legal z polled_once
    once = ((histories_join.legal z polled_once during).0 parts.0).0

    first_poll : Legal z before × May z (state_of before) e
    first_poll = (histories_join.one_more z before e).0 once

    -- it was begun before its first poll, and so is not Removed any more
    was_begun : is_at (after polled_once) Begun of ≡ true
    was_begun =
        ap (λ (t : State). is_at t.world Begun of) (one_more before e) ∙ is_at-polled (after before) of poll Begun of
        ∙ (find_some (is_at (after before) Begun) (round_from (state_of before).collector.asked (in_order (after before))) of first_poll.1.may.next).1

    never : (ds : List Entry) → Legal z (polled_once ++ ds) → is_at (after (polled_once ++ ds)) Removed of ≡ false
    never ds legal = false_from_ne_true _ (λ is.
        let zero : times_begun (polled_once ++ ds) of ≡ 0 = ((destroyed_by_stage_holds z (polled_once ++ ds) legal of).removed is).begun_is in
        let one : times_begun polled_once of ≡ 1 = ((destroyed_by_stage_holds z polled_once once of).begun was_begun).begun_is in
        let both : times_begun (polled_once ++ ds) of ≡ times_begun polled_once of + times_begun ds of = count-append (λ x. begins of x.act) polled_once ds in
        absurd (omega arith))

    InTurn : List Entry → Type 0
    InTurn ds = is_at (after (polled_once ++ ds)) Begun of ≡ true → IsTurn (state_of (polled_once ++ ds)) of (times_asked ds)

    first : InTurn []
    first now =
        subst (λ (t : State). IsTurn t of (times_asked [])) (sym (ap state_of (append-nil polled_once) ∙ one_more before e))
        (turn_starts (state_of before) of poll answer (times_asked []) (in_order_different z before first_poll.0) first_poll.1.may (sound z before first_poll.0))

    step : (ds : List Entry) (d : Entry) → Legal z (polled_once ++ ds) → May z (state_of (polled_once ++ ds)) d → Unit {0} → InTurn ds → InTurn (ds ++ d ∷ [])
    step ds d legal may q h now =
        subst (λ (t : State). IsTurn t of (times_asked (ds ++ d ∷ []))) (sym (one_more_of polled_once ds d))
        (subst (λ (count : Name → ℕ). IsTurn (next (state_of (polled_once ++ ds)) d) of count) (λ i m. sym (one_counted (λ x. asks m x.act) ds d) i)
        (turn_next z (state_of (polled_once ++ ds)) d.pass d.act of (times_asked ds) may (sound z (polled_once ++ ds) legal) (in_order_different z (polled_once ++ ds) legal)
        (ap (λ (t : State). is_at t.world Begun of) (sym (one_more_of polled_once ds d)) ∙ now) (never ds legal) h))

    turn : IsTurn s of (times_asked during)
    turn = by_more z polled_once InTurn (λ x. Unit {0}) first step during parts.0 (all_trivial during)
        (find_some (is_at s.world Begun) (round_from s.collector.asked (in_order s.world)) of parts.1.may.next).1

    -- the object stands in the round
    there : Among (round s) n
    there = filter_among (is_at s.world Begun) (rotated s.collector.asked (in_order s.world)) n
        (has_among _ n
        (has-rotated s.collector.asked (in_order s.world) n
        ∙ (sound z (polled_once ++ during) parts.0).destroying.covered parts.1.may.gathered n (in_removals_at s.world Begun n begun))) begun

    ends : (others : List Name) × (round s ≡ of ∷ others) × (filter (is_at s.world Begun) (rotated (Some of) (in_order s.world)) ≡ others ++ of ∷ []) × (has others of ≡ false)
        → (rest : List Name) → round s ≡ rest ++ of ∷ turn.polled → 1 ≤ times_asked during n
    ends first [] are = go (subst (λ (ns : List Name). Among ns n) are there)
      where
        go : (of ≡ n) ⊎ Among turn.polled n → 1 ≤ times_asked during n
        go (inl same) = absurd (ne (sym same))
        go (inr k) = turn.each n k
    ends first (y ∷ rest) are =
        let all : y ∷ (rest ++ of ∷ turn.polled) ≡ of ∷ first.0 = sym are ∙ first.1 in
        let others : rest ++ of ∷ turn.polled ≡ first.0 = cc in
        absurd (both_ways (has first.0 of) first.3 (ap (λ (ns : List Name). has ns of) (sym others) ∙ among_has (rest ++ of ∷ turn.polled) of (among_right rest (of ∷ turn.polled) of (inl refl))))
