-- In every legal history each object that was made is in one place, quotas hold, and names are given once.
use Rattle.std.proofs.Common.{◌≡◌, ◌≢◌, ℕ, ◌+◌, ◌-◌, ◌≤◌, ◌<◌, refl, sym, subst, ap, ◌∙◌, inl, inr, arith, Bool, cond, true, false, ◌||◌, ◌==◌, List, [], ◌∷◌, ◌++◌, length, length-append, Option, Some, None, ◌⊎◌, append-nil, append_assoc, is_some, if◌then◌else◌, MatchOption}
use Rattle.std.specs.List.{list_any, count_by}
use Rattle.std.proofs.lemmas.Bool.{both_ways, false_from_ne_true, true_from_ne_false, or_left, eqb-true, eqb-false, eq-eqb, cases_lt}
use Rattle.std.proofs.lemmas.List.Folds.{list_any-append}
use Rattle.std.proofs.lemmas.List.Concat.{flat_map-append}
use Rattle.world_model.specs.Types.{Name, Weak, Kind, Marking, Gathering, SweepStop, Pass, Lane, Marker, Collector, Act, Entry}
use Rattle.world_model.specs.Types.act
use Rattle.world_model.specs.Types.begin
use Rattle.world_model.specs.Types.commit
use Rattle.world_model.specs.Types.sweep
use Rattle.world_model.specs.CollectorSteps.{SweepMay}
use Rattle.world_model.specs.Sizes.{Sizes}
use Rattle.world_model.specs.NameLists.{same_name, has, members, ends_with, but_last, parted, names_from}
use Rattle.world_model.specs.World.{World, Pair, in_world, made, occupied, drawn, pair_of}
use Rattle.world_model.specs.State.{State, beginning, is_marked}
use Rattle.world_model.specs.Next.{next_world, with_loose, next_by, next, run, lane_of, settled}
use Rattle.world_model.specs.LaneSteps.{DrawsPair}
use Rattle.world_model.specs.Histories.{MayBy, May, Legal, state_of, after}
use Rattle.world_model.specs.Follows.{IsMade, is_removed, made_by, freed_by, names_made, names_released, names_released_from, UnitsAreSound, ExactlyOne, EachInOnePlace, QuotasHold, CensusAddsUp, NamesOnce}
use Rattle.world_model.proofs.ListFacts.{or_true, or_right, Among, among_append, among_filter, among_filter_test, among_test, contains_among}
use Rattle.world_model.proofs.NameFacts.{same_name_refl}
use Rattle.world_model.proofs.Units.{units_apart}
use Rattle.world_model.proofs.Rounds.{has-members}
use Rattle.world_model.proofs.Loosening.{ends_some, among_parted, which_part}
use Rattle.world_model.proofs.Queues.{named_any}
use Rattle.world_model.proofs.Inductions.{by_entries, by_states, one_more}
use Rattle.world_model.proofs.Counts.{count-append, count-cons, counted, uncounted, different_from_counts, names_of, count_names, total, next_total}
use Rattle.world_model.proofs.Sound.{IsSound, sound, made_stays, was_made, is_new, made_once}
use Rattle.world_model.proofs.Barrier.{marked_more}

-- ---- what was made and released

released_more : (s : State) (xs : List Entry) (e : Entry) → names_released_from s (xs ++ e ∷ []) ≡ names_released_from s xs ++ freed_by (run s xs).world e.act
released_more s [] e = append-nil (freed_by s.world e.act)
released_more s (x ∷ xs) e =
    ap (λ (ns : List Name). freed_by s.world x.act ++ ns) (released_more (next s x) xs e)
    ∙ sym (append_assoc (freed_by s.world x.act) (names_released_from (next s x) xs) (freed_by (run (next s x) xs).world e.act))

made_more : (xs : List Entry) (e : Entry) → names_made (xs ++ e ∷ []) ≡ names_made xs ++ made_by e.pass e.act
made_more xs e =
    flat_map-append (λ (e : Entry). made_by e.pass e.act) xs (e ∷ []) ∙ ap (λ (ns : List Name). names_made xs ++ ns) (append-nil (made_by e.pass e.act))

-- Of the objects that pass a test, those that were made are those that live, those that are removed and those that are released.
pub all_places : (z : Sizes) (q : Name → Bool) (history : List Entry) → Legal z history → total q (after history) + count_by q (names_released history) ≡ count_by q (names_made history)
all_places z q history legal = by_entries z (λ xs. total q (after xs) + count_by q (names_released xs) ≡ count_by q (names_made xs)) refl step history legal
  where
    step : (xs : List Entry) (e : Entry) → Legal z xs → May z (state_of xs) e → total q (after xs) + count_by q (names_released xs) ≡ count_by q (names_made xs)
        → total q (after (xs ++ e ∷ [])) + count_by q (names_released (xs ++ e ∷ [])) ≡ count_by q (names_made (xs ++ e ∷ []))
    step xs e legal may h =
        let s = state_of xs in
        let now : total q (after (xs ++ e ∷ [])) ≡ total q (next s e).world = ap (λ (t : State). total q t.world) (one_more xs e) in
        let new = next_total z s e.pass e.act may (sound z xs legal).destroying.unmarked q in
        let gone : count_by q (names_released (xs ++ e ∷ [])) ≡ count_by q (names_released xs) + count_by q (freed_by s.world e.act) =
        ap (count_by q) (released_more beginning xs e) ∙ count-append q (names_released xs) (freed_by s.world e.act) in
        let fresh : count_by q (names_made (xs ++ e ∷ [])) ≡ count_by q (names_made xs) + count_by q (made_by e.pass e.act) =
        ap (count_by q) (made_more xs e) ∙ count-append q (names_made xs) (made_by e.pass e.act) in
        omega arith

-- each name is made once where it is made, and else never
pub made_counts : (z : Sizes) (n : Name) (history : List Entry) → Legal z history → (count_by (same_name n) (names_made history) ≤ 1)
    × (IsMade (after history) n → 1 ≤ count_by (same_name n) (names_made history)) × (1 ≤ count_by (same_name n) (names_made history) → IsMade (after history) n)
made_counts z n history legal = by_entries z Counts first step history legal
  where
    Counts : List Entry → Type 0
    Counts xs = (count_by (same_name n) (names_made xs) ≤ 1) × (IsMade (after xs) n → 1 ≤ count_by (same_name n) (names_made xs)) × (1 ≤ count_by (same_name n) (names_made xs) → IsMade (after xs) n)

    first : Counts []
    first = (omega arith, λ m. absurd (omega (arith, m.0, m.1)), λ k. absurd (omega arith))

    step : (xs : List Entry) (e : Entry) → Legal z xs → May z (state_of xs) e → Counts xs → Counts (xs ++ e ∷ [])
    step xs e legal may h = go (has (made_by e.pass e.act) n) refl
      where
        s : State
        s = state_of xs

        more : count_by (same_name n) (names_made (xs ++ e ∷ [])) ≡ count_by (same_name n) (names_made xs) + count_by (same_name n) (made_by e.pass e.act)
        more = ap (count_by (same_name n)) (made_more xs e) ∙ count-append (same_name n) (names_made xs) (made_by e.pass e.act)

        now : IsMade (next s e).world n → IsMade (after (xs ++ e ∷ [])) n
        now m = subst (λ (t : State). IsMade t.world n) (sym (one_more xs e)) m

        before : IsMade (after (xs ++ e ∷ [])) n → IsMade (next s e).world n
        before m = subst (λ (t : State). IsMade t.world n) (one_more xs e) m

        go : (b : Bool) → has (made_by e.pass e.act) n ≡ b → Counts (xs ++ e ∷ [])
        go true is =
            let sum = more in
            let new = is_new z s e.pass e.act n may is in
            let one = made_once e.pass e.act n in
            let some = counted (same_name n) (made_by e.pass e.act) is in
            let none : count_by (same_name n) (names_made xs) ≡ 0 = zero (cases_lt (count_by (same_name n) (names_made xs)) 1) new.0 in
            (omega arith, λ m. omega arith, λ k. now new.1)
          where
            zero : (count_by (same_name n) (names_made xs) < 1) ⊎ (1 ≤ count_by (same_name n) (names_made xs)) → (IsMade s.world n → ⊥) → count_by (same_name n) (names_made xs) ≡ 0
            zero (inl low) no_one = omega arith
            zero (inr some) no_one = absurd (no_one (h.2 some))
        go false is =
            let sum = more in
            let none = uncounted (same_name n) (made_by e.pass e.act) is in
            let old = h.0 in (
              omega arith,
              λ m. made_before (was_made z s e.pass e.act n may (before m)),
              λ k. now (made_stays s e.pass e.act n (h.2 (omega arith))),
            )
          where
            made_before : IsMade s.world n ⊎ (has (made_by e.pass e.act) n ≡ true) → 1 ≤ count_by (same_name n) (names_made (xs ++ e ∷ []))
            made_before (inl m) = let sum = more in let old = h.1 m in omega arith
            made_before (inr k) = absurd (both_ways _ is k)

pub names_once_holds : NamesOnce
names_once_holds z history legal = record {
  once = different_from_counts (names_made history) (λ n. (made_counts z n history legal).0);
  made = λ n. (
    λ k. (made_counts z n history legal).2 (counted (same_name n) (names_made history) k),
    λ m. true_from_ne_false _ (λ out. let none = uncounted (same_name n) (names_made history) out in let some = (made_counts z n history legal).1 m in absurd (omega arith)),
  );
}

-- a test that at most one element passes counts as 1 or 0
as_count : (n : Name) (ns : List Name) → count_by (same_name n) ns ≤ 1 → cond (has ns n) 1 0 ≡ count_by (same_name n) ns
as_count n ns one = go (has ns n) refl
  where
    go : (b : Bool) → has ns n ≡ b → cond b 1 0 ≡ count_by (same_name n) ns
    go true e = let some = counted (same_name n) ns e in omega arith
    go false e = sym (uncounted (same_name n) ns e)

pub each_in_one_place_holds : EachInOnePlace
each_in_one_place_holds z history legal n = record { made = made_in_one; only = λ k. (made_counts z n history legal).2 (somewhere (or_true _ _ k)) }
  where
    w : World
    w = after history

    all : total (same_name n) w + count_by (same_name n) (names_released history) ≡ count_by (same_name n) (names_made history)
    all = all_places z (same_name n) history legal

    lives : cond (in_world w n) 1 0 ≡ count_by (same_name n) (members w.units)
    lives = ap (λ (b : Bool). cond {A = ℕ} b 1 0) (sym (has-members w.units n)) ∙ as_count n (members w.units) (let whole = all in let one = (made_counts z n history legal).0 in omega arith)

    gone : cond (is_removed w n) 1 0 ≡ count_by (same_name n) (names_of w.removals)
    gone = ap (λ (b : Bool). cond {A = ℕ} b 1 0) (sym (named_any n w.removals)) ∙ as_count n (names_of w.removals) (let whole = all in let one = (made_counts z n history legal).0 in omega arith)

    out : cond (has (names_released history) n) 1 0 ≡ count_by (same_name n) (names_released history)
    out = as_count n (names_released history) (let whole = all in let one = (made_counts z n history legal).0 in omega arith)

    made_in_one : IsMade w n → ExactlyOne (in_world w n ∷ is_removed w n ∷ has (names_released history) n ∷ [])
    made_in_one m =
        let one = (made_counts z n history legal).0 in
        let some = (made_counts z n history legal).1 m in
        let a = count-cons (λ (test : Bool). test) (in_world w n) (is_removed w n ∷ has (names_released history) n ∷ []) in
        let b = count-cons (λ (test : Bool). test) (is_removed w n) (has (names_released history) n ∷ []) in
        let c = count-cons (λ (test : Bool). test) (has (names_released history) n) [] in
        let x = lives in
        let y = gone in
        let v = out in
        let whole = all in
        omega arith

    somewhere : (in_world w n ≡ true) ⊎ ((is_removed w n || has (names_released history) n) ≡ true) → 1 ≤ count_by (same_name n) (names_made history)
    somewhere (inl e) = let x : 1 ≡ count_by (same_name n) (members w.units) = ap (λ (b : Bool). cond {A = ℕ} b 1 0) (sym e) ∙ lives in let whole = all in omega arith
    somewhere (inr k) = later (or_true _ _ k)
      where
        later : (is_removed w n ≡ true) ⊎ (has (names_released history) n ≡ true) → 1 ≤ count_by (same_name n) (names_made history)
        later (inl e) = let x : 1 ≡ count_by (same_name n) (names_of w.removals) = ap (λ (b : Bool). cond {A = ℕ} b 1 0) (sym e) ∙ gone in let whole = all in omega arith
        later (inr e) = let x : 1 ≡ count_by (same_name n) (names_released history) = ap (λ (b : Bool). cond {A = ℕ} b 1 0) (sym e) ∙ out in let whole = all in omega arith

-- ---- quotas

-- of new names of a lane all are of the lane
pub new_in_lane : (lane first l : ℕ) (kinds : List Kind) → count_by (λ n. n.lane == l) (names_from lane first kinds) ≡ cond (lane == l) (length kinds) 0
new_in_lane lane first l [] = go (lane == l)
  where
    go : (b : Bool) → ◌≡◌ {A = ℕ} 0 (cond b 0 0)
    go true = refl
    go false = refl
new_in_lane lane first l (k ∷ kinds) =
    let more = count-cons (λ n. n.lane == l) (record { lane = lane; count = first }) (names_from lane (first + 1) kinds) in
    let rest = new_in_lane lane (first + 1) l kinds in
    go (lane == l) more rest
  where
    go : (b : Bool) → count_by (λ n. n.lane == l) (names_from lane first (k ∷ kinds)) ≡ cond b 1 0 + count_by (λ n. n.lane == l) (names_from lane (first + 1) kinds)
        → count_by (λ n. n.lane == l) (names_from lane (first + 1) kinds) ≡ cond b (length kinds) 0
        → count_by (λ n. n.lane == l) (names_from lane first (k ∷ kinds)) ≡ cond b (length (k ∷ kinds)) 0
    go true more rest = omega arith
    go false more rest = omega arith

-- how many objects a lane has made, after an entry
made_grows : (z : Sizes) (s : State) (p : Pass) (a : Act) → MayBy z s p a → (l : ℕ) → made (next_world s.marks s.world p a) l ≡ made s.world l + count_by (λ n. n.lane == l) (made_by p a)
made_grows z s (Lane lane) (act.Make kinds first) may l = go (l == lane) refl
  where
    go : (b : Bool) → (l == lane) ≡ b → length (cond b (s.world.kinds lane ++ kinds) (s.world.kinds l)) ≡ length (s.world.kinds l) + count_by (λ n. n.lane == l) (names_from lane first kinds)
    go true e =
        let same : l ≡ lane = eqb-true l lane e in
        let own : (lane == l) ≡ true = eq-eqb lane l (sym same) in
        let new : count_by (λ n. n.lane == l) (names_from lane first kinds) ≡ length kinds = new_in_lane lane first l kinds ∙ (rw own refl) in
        let old : length (s.world.kinds l) ≡ length (s.world.kinds lane) = ap (λ (i : ℕ). length (s.world.kinds i)) same in
        omega (arith, length-append (s.world.kinds lane) kinds)
    go false e =
        let other : (lane == l) ≡ false = false_from_ne_true _ (λ t. eqb-false l lane e (sym (eqb-true lane l t))) in
        let new : count_by (λ n. n.lane == l) (names_from lane first kinds) ≡ 0 = new_in_lane lane first l kinds ∙ (rw other refl) in
        omega arith
made_grows z s (Marker marker) (act.Make kinds first) may l = absurd may.may
made_grows z s Collector (act.Make kinds first) may l = absurd may.may
made_grows z s p (act.BeginGc begin.Started) may l = omega arith
made_grows z s p (act.CommitGc commit.Done) may l = omega arith
made_grows z s p _ may l = omega arith

made_is : (z : Sizes) (history : List Entry) → Legal z history → (l : ℕ) → made (after history) l ≡ count_by (λ n. n.lane == l) (names_made history)
made_is z history legal l = by_entries z (λ xs. made (after xs) l ≡ count_by (λ n. n.lane == l) (names_made xs)) refl
    (λ xs e legal may h.
    let now : made (after (xs ++ e ∷ [])) l ≡ made (next (state_of xs) e).world l = ap (λ (t : State). made t.world l) (one_more xs e) in
    let grows = made_grows z (state_of xs) e.pass e.act may l in
    let more : count_by (λ n. n.lane == l) (names_made (xs ++ e ∷ [])) ≡ count_by (λ n. n.lane == l) (names_made xs) + count_by (λ n. n.lane == l) (made_by e.pass e.act) =
    ap (count_by (λ n. n.lane == l)) (made_more xs e) ∙ count-append (λ n. n.lane == l) (names_made xs) (made_by e.pass e.act) in
    omega arith) history legal

-- what is occupied, as a count of names
occupied_total : (w : World) (l : ℕ) → occupied w l ≡ total (λ n. n.lane == l) w
occupied_total w l = ap (λ (k : ℕ). count_by (λ n. n.lane == l) (members w.units) + k) (count_names (λ n. n.lane == l) w.removals)

-- no more is made than there is room for, and no more names and serials are given than there are
pub record IsWithin (z : Sizes) (w : World) (l : ℕ) : Type 0 where
  pub quota : total (λ n. n.lane == l) w ≤ z.quota
  pub names : made w l ≤ z.names
  pub serials : drawn w l ≤ z.serials

drawn_next : (z : Sizes) (s : State) (p : Pass) (a : Act) → MayBy z s p a → (l : ℕ) → drawn s.world l ≤ z.serials → drawn (next_world s.marks s.world p a) l ≤ z.serials
drawn_next z s (Lane lane) (act.WeakOf at got) may l h = go (pair_of s.world at) may.may.pair
  where
    go : (o : Option Weak) → MatchOption o (DrawsPair z s.world lane got) (λ pair. got ≡ pair)
        → count_by (λ p. p.lane == l) (if is_some o then s.world.pairs else s.world.pairs ++ record { weak = got; name = at; lane = lane } ∷ []) ≤ z.serials
    go (Some pair) m = h
    go None draws =
        let all = count-append (λ (p : Pair). p.lane == l) s.world.pairs (record { weak = got; name = at; lane = lane } ∷ []) in
        let one = count-cons (λ (p : Pair). p.lane == l) (record { weak = got; name = at; lane = lane }) [] in
        new (lane == l) refl all one
      where
        new : (b : Bool) → (lane == l) ≡ b
            → count_by (λ (p : Pair). p.lane == l) (s.world.pairs ++ record { weak = got; name = at; lane = lane } ∷ [])
            ≡ count_by (λ (p : Pair). p.lane == l) s.world.pairs
            + count_by (λ (p : Pair). p.lane == l) (record { weak = got; name = at; lane = lane } ∷ [])
            → count_by (λ (p : Pair). p.lane == l) (record { weak = got; name = at; lane = lane } ∷ []) ≡ cond b 1 0 + 0
            → count_by (λ (p : Pair). p.lane == l) (s.world.pairs ++ record { weak = got; name = at; lane = lane } ∷ []) ≤ z.serials
        new true e all one = let left : drawn s.world l < z.serials = subst (λ (i : ℕ). drawn s.world i < z.serials) (eqb-true lane l e) draws.left in omega arith
        new false e all one = omega arith
drawn_next z s (Marker marker) (act.WeakOf at got) may l h = absurd may.may
drawn_next z s Collector (act.WeakOf at got) may l h = absurd may.may
drawn_next z s p (act.BeginGc begin.Started) may l h = h
drawn_next z s p (act.CommitGc commit.Done) may l h = h
drawn_next z s p _ may l h = h

within_next : (z : Sizes) (s : State) (p : Pass) (a : Act) → MayBy z s p a → IsSound s → (l : ℕ) → IsWithin z s.world l → IsWithin z (next_world s.marks s.world p a) l
within_next z s (Lane lane) (act.Make kinds first) may known l h = go (lane == l) refl
  where
    go : (b : Bool) → (lane == l) ≡ b → IsWithin z (next_world s.marks s.world (Lane lane) (act.Make kinds first)) l
    go true e =
        let same : lane ≡ l = eqb-true lane l e in
        let all = next_total z s (Lane lane) (act.Make kinds first) may known.destroying.unmarked (λ n. n.lane == l) in
        let grows = made_grows z s (Lane lane) (act.Make kinds first) may l in
        let new : count_by (λ n. n.lane == l) (names_from lane first kinds) ≡ length kinds = new_in_lane lane first l kinds ∙ (rw e refl) in
        let room : length kinds ≤ z.quota - occupied s.world l = subst (λ (i : ℕ). length kinds ≤ z.quota - occupied s.world i) same may.may.room in
        let names : made s.world l + length kinds ≤ z.names = subst (λ (i : ℕ). made s.world i + length kinds ≤ z.names) same may.may.names in
        let is = occupied_total s.world l in
        let quota = h.quota in
        record { quota = omega arith; names = omega arith; serials = h.serials }
    go false e =
        let all = next_total z s (Lane lane) (act.Make kinds first) may known.destroying.unmarked (λ n. n.lane == l) in
        let grows = made_grows z s (Lane lane) (act.Make kinds first) may l in
        let new : count_by (λ n. n.lane == l) (names_from lane first kinds) ≡ 0 = new_in_lane lane first l kinds ∙ (rw e refl) in
        record { quota = let old = h.quota in omega arith; names = let old = h.names in omega arith; serials = h.serials }
within_next z s (Marker marker) (act.Make kinds first) may known l h = absurd may.may
within_next z s Collector (act.Make kinds first) may known l h = absurd may.may
within_next z s p a may known l h =
    let all = next_total z s p a may known.destroying.unmarked (λ n. n.lane == l) in
    let grows = made_grows z s p a may l in
    record { quota = let old = h.quota in omega arith; names = let old = h.names in omega arith; serials = drawn_next z s p a may l h.serials }

pub within : (z : Sizes) (history : List Entry) → Legal z history → (l : ℕ) → IsWithin z (after history) l
within z history legal l = by_states z (λ s. IsWithin z s.world l) (record { quota = omega arith; names = omega arith; serials = omega arith })
    (λ xs e legal may h. within_next z (state_of xs) e.pass e.act may (sound z xs legal) l h) history legal

pub quotas_hold_holds : QuotasHold
quotas_hold_holds z history legal l =
    let h = within z history legal l in
    let is = occupied_total (after history) l in
    let all = all_places z (λ n. n.lane == l) history legal in
    let made_all = made_is z history legal l in
    let quota = h.quota in
    record { free_is = omega arith; occupied_is = omega arith; names = h.names; serials = h.serials }

pub census_adds_up_holds : CensusAddsUp
census_adds_up_holds z history legal l = let quota = (quotas_hold_holds z history legal l).free_is in omega arith

-- ---- units

some_units : (z : Sizes) (s : State) (p : Pass) (a : Act) → MayBy z s p a → ((u : List Name) → Among s.world.units u → u ≢ []) → (u : List Name)
    → Among (next_world s.marks s.world p a).units u → u ≢ []
some_units z s (Lane lane) (act.Make kinds first) may h u k = go (among_append s.world.units (names_from lane first kinds ∷ []) u k)
  where
    some : (kinds : List Kind) → 1 ≤ length kinds → names_from lane first kinds ≢ []
    some [] less = absurd (omega arith)
    some (k ∷ kinds) less = λ e. cc

    go : Among s.world.units u ⊎ ((names_from lane first kinds ≡ u) ⊎ ⊥) → u ≢ []
    go (inl k) = h u k
    go (inr (inl e)) = λ none. some kinds may.may.some (e ∙ none)
    go (inr (inr e)) = absurd e
some_units z s (Marker marker) (act.Make kinds first) may h u k = absurd may.may
some_units z s Collector (act.Make kinds first) may h u k = absurd may.may
some_units z s p (act.CommitGc commit.Done) may h u k = h u (among_filter (is_marked s.marks) s.world.units u k)
some_units z s p (act.Loose of) may h u k = go (among_parted of s.world.units u k)
  where
    go : (v : List Name) × Among s.world.units v × Among (parted of v) u → u ≢ []
    go (v, unit, part) = one (which_part of v u part)
      where
        one : ((ends_with of v ≡ true) × ((but_last v ≡ u) ⊎ (of ∷ [] ≡ u))) ⊎ ((ends_with of v ≡ false) × (v ≡ u)) → u ≢ []
        one (inl (e, inl same)) = λ none. ends_some of v e (same ∙ none)
        one (inl (e, inr same)) = λ none. let wrong : of ∷ [] ≡ [] = same ∙ none in cc
        one (inr (e, same)) = λ none. h v unit (same ∙ none)
some_units z s p (act.BeginGc begin.Started) may h u k = h u k
some_units z s p _ may h u k = h u k

-- outside marking each unit is marked
all_marked : (z : Sizes) (s : State) (p : Pass) (a : Act) → MayBy z s p a → ((u : List Name) → Among s.world.units u → u ≢ [])
    → (s.world.phase ≢ Marking → (u : List Name) → Among s.world.units u → is_marked s.marks u ≡ true)
    → (next_world s.marks s.world p a).phase ≢ Marking → (u : List Name) → Among (next_world s.marks s.world p a).units u → is_marked (next_by s (next_world s.marks s.world p a) p a).marks u ≡ true
all_marked z s p (act.Make kinds first) may some h other u k = go (among_append s.world.units (new ∷ []) u k)
  where
    new : List Name
    new = names_from (lane_of p) first kinds

    own : (n : Name) → has new n ≡ true → has (new ++ s.marks.fresh) n ≡ true
    own n e = list_any-append (same_name n) new s.marks.fresh ∙ or_left _ _ e

    go : Among s.world.units u ⊎ ((new ≡ u) ⊎ ⊥) → list_any (λ n. has s.marks.kept n || has (new ++ s.marks.fresh) n) u ≡ true
    go (inl k) =
        marked_more s.marks.kept s.marks.kept s.marks.fresh (new ++ s.marks.fresh) u (λ n e. e)
        (λ n e. list_any-append (same_name n) new s.marks.fresh ∙ or_right (has new n) _ e) (h other u k)
    go (inr (inl e)) = in_new u e (some_units z s p (act.Make kinds first) may some u k)
      where
        in_new : (u : List Name) → new ≡ u → u ≢ [] → list_any (λ n. has s.marks.kept n || has (new ++ s.marks.fresh) n) u ≡ true
        in_new [] e none = absurd (none refl)
        in_new (n ∷ u) e none = or_left _ _ (or_right _ _ (own n (subst (λ (x : List Name). has x n ≡ true) (sym e) (or_left _ _ (same_name_refl n)))))
    go (inr (inr e)) = absurd e
all_marked z s p (act.Loose of) may some h other u k = lives u (some_units z s p (act.Loose of) may some u k) k
  where
    now : List Name
    now = members (with_loose s.world of).units

    -- what lives counts as marked
    lives : (u : List Name) → u ≢ [] → Among (with_loose s.world of).units u → list_any (λ n. has s.marks.kept n || has (now ++ s.marks.fresh) n) u ≡ true
    lives [] none k = absurd (none refl)
    lives (n ∷ u) none k =
        let there : has now n ≡ true = has-members (with_loose s.world of).units n ∙ among_test (λ v. has v n) (with_loose s.world of).units (n ∷ u) k (or_left _ _ (same_name_refl n)) in
        or_left _ _ (or_right (has s.marks.kept n) _ (list_any-append (same_name n) now s.marks.fresh ∙ or_left _ _ there))
all_marked z s Collector (act.Kept of) may some h other u k = absurd (other may.may.white.marking)
all_marked z s (Lane lane) (act.Kept of) may some h other u k = absurd (other may.may.white.marking)
all_marked z s (Marker marker) (act.Kept of) may some h other u k = absurd (other may.may.white.marking)
all_marked z s p (act.BeginGc begin.Started) may some h other u k = absurd (other refl)
all_marked z s p (act.CommitGc commit.Done) may some h other u k = among_filter_test (is_marked s.marks) s.world.units u k
all_marked z s Collector (act.Sweep budget reply names) may some h other u k = h (λ marking. gathers marking reply.stop may.may other) u k
  where
    gathers : s.world.phase ≡ Marking → (stop : SweepStop) → SweepMay z s budget reply names stop → settled s.world.phase stop ≢ Marking → ⊥
    gathers marking sweep.More may other = other marking
    gathers marking sweep.Settled may other = let wrong : Gathering ≡ Marking = sym may.0.gathering ∙ marking in cc
    gathers marking (sweep.NotGathering phase) may other = other marking
all_marked z s (Lane lane) (act.Sweep budget reply names) may some h other u k = absurd may.may
all_marked z s (Marker marker) (act.Sweep budget reply names) may some h other u k = absurd may.may
all_marked z s p _ may some h other u k = h other u k

pub units_are_sound_holds : UnitsAreSound
units_are_sound_holds z history legal =
    let apart = units_apart z history legal in
    let h = by_states z (λ s. ((u : List Name) → Among s.world.units u → u ≢ []) × (s.world.phase ≢ Marking → (u : List Name) → Among s.world.units u → is_marked s.marks u ≡ true))
    (λ u k. absurd k, λ other u k. absurd k)
    (λ xs e legal may h. (some_units z (state_of xs) e.pass e.act may h.0, all_marked z (state_of xs) e.pass e.act may h.0 h.1)) history legal in
    record {
      apart = λ u v n k l a b. apart.apart u v n (contains_among _ u k) (contains_among _ v l) a b;
      once = different_from_counts (members (after history).units) (λ n. let one = (sound z history legal).once.once n in omega arith);
      some = λ u k. h.0 u (contains_among _ u k);
      marked = λ other u k. h.1 other u (contains_among _ u k);
    }
