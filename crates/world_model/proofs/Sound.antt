-- In every legal history each object that was made is in one place at most, and removed objects are destroyed in order.
use Rattle.std.proofs.Common.{◌≡◌, ℕ, ◌+◌, ◌≤◌, ◌<◌, refl, ap, ◌∙◌, inl, inr, arith, Bool, cond, true, false, ◌||◌, ◌==◌, List, [], ◌∷◌, ◌++◌, ◌&&◌, length, length-append, Some, ◌⊎◌}
use Rattle.std.specs.List.{count_by}
use Rattle.std.proofs.lemmas.Bool.{false_from_ne_true, eqb-true, eqb-false, eq-eqb, cases_lt}
use Rattle.world_model.specs.Types.{Name, Kind, Pass, Lane, Marker, Collector, Act, Entry}
use Rattle.world_model.specs.Types.act
use Rattle.world_model.specs.Types.begin
use Rattle.world_model.specs.Types.commit
use Rattle.world_model.specs.Sizes.{Sizes}
use Rattle.world_model.specs.NameLists.{same_name, has, all_different, members, names_from}
use Rattle.world_model.specs.World.{World, in_world}
use Rattle.world_model.specs.State.{State, beginning, is_marked, white_units}
use Rattle.world_model.specs.Next.{next_world, next}
use Rattle.world_model.specs.CollectorSteps.{Begins, Releases, Commits}
use Rattle.world_model.specs.LaneSteps.{Makes}
use Rattle.world_model.specs.Histories.{MayBy, May, Legal, state_of}
use Rattle.world_model.specs.Follows.{IsMade, is_removed, made_by}
use Rattle.world_model.proofs.NameFacts.{same_name_true, names_from_range}
use Rattle.world_model.proofs.Units.{grown, new_made}
use Rattle.world_model.proofs.Rounds.{has-members}
use Rattle.world_model.proofs.Queues.{named_any}
use Rattle.world_model.proofs.Inductions.{by_states}
use Rattle.world_model.proofs.Counts.{count-cons, counted, uncounted, different_from_counts, count_parts, names_of, total, next_total}
use Rattle.world_model.proofs.Destroying.{Destroying, Agreed, next_destroying, next_agreed}

-- ---- which pass an act is of

pub makes : (z : Sizes) (s : State) (p : Pass) (kinds : List Kind) (first : ℕ) → MayBy z s p (act.Make kinds first) → (lane : ℕ) × (p ≡ Lane lane) × Makes z s lane kinds first
makes z s (Lane lane) kinds first may = (lane, refl, may.may)
makes z s (Marker marker) kinds first may = absurd may.may
makes z s Collector kinds first may = absurd may.may

pub begins_may : (z : Sizes) (s : State) (p : Pass) (of : Name) → MayBy z s p (act.Begun of) → Begins s of
begins_may z s (Lane lane) of may = absurd may.may
begins_may z s (Marker marker) of may = absurd may.may
begins_may z s Collector of may = may.may

pub finishes_may : (z : Sizes) (s : State) (p : Pass) (of : Name) → MayBy z s p (act.Finished of) → s.collector.agreed ≡ Some of
finishes_may z s (Lane lane) of may = absurd may.may
finishes_may z s (Marker marker) of may = absurd may.may
finishes_may z s Collector of may = may.finishes

pub releases_may : (z : Sizes) (s : State) (p : Pass) (of : Name) → MayBy z s p (act.Released of) → Releases s of
releases_may z s (Lane lane) of may = absurd may.may
releases_may z s (Marker marker) of may = absurd may.may
releases_may z s Collector of may = may.may

pub commits_may : (z : Sizes) (s : State) (p : Pass) → MayBy z s p (act.CommitGc commit.Done) → Commits s
commits_may z s (Lane lane) may = absurd may.may
commits_may z s (Marker marker) may = absurd may.may
commits_may z s Collector may = may.may

-- ---- what is made

-- what was made stays made
pub made_stays : (s : State) (p : Pass) (a : Act) (n : Name) → IsMade s.world n → IsMade (next_world s.marks s.world p a) n
made_stays s (Lane lane) (act.Make kinds first) n h = (h.0, omega (arith, h.1, grown s.world.kinds lane kinds n.lane))
made_stays s (Marker marker) (act.Make kinds first) n h = (h.0, omega (arith, h.1, grown s.world.kinds 0 kinds n.lane))
made_stays s Collector (act.Make kinds first) n h = (h.0, omega (arith, h.1, grown s.world.kinds 0 kinds n.lane))
made_stays s p (act.BeginGc begin.Started) n h = h
made_stays s p (act.CommitGc commit.Done) n h = h
made_stays s p _ n h = h

-- what an entry makes was not made, and then it is
pub is_new : (z : Sizes) (s : State) (p : Pass) (a : Act) (n : Name) → MayBy z s p a → has (made_by p a) n ≡ true → (IsMade s.world n → ⊥) × IsMade (next_world s.marks s.world p a) n
is_new z s (Lane lane) (act.Make kinds first) n may h =
    let range = names_from_range lane first kinds n h in
    let next : first ≡ length (s.world.kinds lane) + 1 = may.may.next in
    let same : length (s.world.kinds n.lane) ≡ length (s.world.kinds lane) = ap (λ (i : ℕ). length (s.world.kinds i)) range.0 in (
      λ made. absurd (omega (arith, made.1, range.1)),
      (omega (arith, range.1), new_made s.world.kinds lane kinds n range.0 (omega (arith, range.2))),
    )
is_new z s (Marker marker) (act.Make kinds first) n may h = absurd may.may
is_new z s Collector (act.Make kinds first) n may h = absurd may.may
is_new z s p _ n may h = absurd cc

-- a count in the range of new names is one of them
in_range : (lane first : ℕ) (kinds : List Kind) (n : Name) → n.lane ≡ lane → first ≤ n.count → n.count < first + length kinds → has (names_from lane first kinds) n ≡ true
in_range lane first [] n own low high = absurd (omega arith)
in_range lane first (k ∷ kinds) n own low high = go (n.count == first) refl (in_range lane (first + 1) kinds n own)
  where
    same_lane : (n.lane == lane) ≡ true
    same_lane = eq-eqb n.lane lane own

    go : (b : Bool) → (n.count == first) ≡ b → (first + 1 ≤ n.count → n.count < (first + 1) + length kinds → has (names_from lane (first + 1) kinds) n ≡ true)
        → (((n.lane == lane) && (n.count == first)) || has (names_from lane (first + 1) kinds) n) ≡ true
    go true e rest = rw (same_lane, e) refl
    go false e rest = rw (same_lane, e) (rest (let ne = eqb-false n.count first e in omega arith) (omega arith))

old_or_new : (z : Sizes) (s : State) (lane : ℕ) (kinds : List Kind) (first : ℕ) (n : Name) → Makes z s lane kinds first → (n.lane == lane) ≡ true
    → (1 ≤ n.count) × (n.count ≤ length (s.world.kinds lane ++ kinds)) → IsMade s.world n ⊎ (has (names_from lane first kinds) n ≡ true)
old_or_new z s lane kinds first n may e h = go (cases_lt (length (s.world.kinds lane)) n.count)
  where
    own : n.lane ≡ lane
    own = eqb-true n.lane lane e

    go : (length (s.world.kinds lane) < n.count) ⊎ (n.count ≤ length (s.world.kinds lane)) → IsMade s.world n ⊎ (has (names_from lane first kinds) n ≡ true)
    go (inl above) =
        let next : first ≡ length (s.world.kinds lane) + 1 = may.next in
        let long = length-append (s.world.kinds lane) kinds in
        inr (in_range lane first kinds n own (omega arith) (omega (arith, h.1)))
    go (inr below) =
        let same : length (s.world.kinds n.lane) ≡ length (s.world.kinds lane) = ap (λ (i : ℕ). length (s.world.kinds i)) own in
        inl (h.0, omega arith)

-- and nothing else is made
pub was_made : (z : Sizes) (s : State) (p : Pass) (a : Act) (n : Name) → MayBy z s p a → IsMade (next_world s.marks s.world p a) n → IsMade s.world n ⊎ (has (made_by p a) n ≡ true)
was_made z s (Lane lane) (act.Make kinds first) n may made = go (n.lane == lane) refl made
  where
    go : (b : Bool) → (n.lane == lane) ≡ b → (1 ≤ n.count) × (n.count ≤ length (cond b (s.world.kinds lane ++ kinds) (s.world.kinds n.lane)))
        → IsMade s.world n ⊎ (has (names_from lane first kinds) n ≡ true)
    go true e h = old_or_new z s lane kinds first n may.may e h
    go false e h = inl h
was_made z s (Marker marker) (act.Make kinds first) n may made = absurd may.may
was_made z s Collector (act.Make kinds first) n may made = absurd may.may
was_made z s p (act.BeginGc begin.Started) n may made = inl made
was_made z s p (act.CommitGc commit.Done) n may made = inl made
was_made z s p _ n may made = inl made

-- ---- each object is in one place

-- what lives or is removed was made, and is there once
pub record IsOnce (w : World) : Type 0 where
  pub made : (n : Name) → 1 ≤ total (same_name n) w → IsMade w n
  pub once : (n : Name) → total (same_name n) w ≤ 1

pub living_counts : (w : World) (n : Name) → in_world w n ≡ true → 1 ≤ count_by (same_name n) (members w.units)
living_counts w n h = counted (same_name n) (members w.units) (has-members w.units n ∙ h)

pub removed_counts : (w : World) (n : Name) → is_removed w n ≡ true → 1 ≤ count_by (same_name n) (names_of w.removals)
removed_counts w n h = counted (same_name n) (names_of w.removals) (named_any n w.removals ∙ h)

pub made_living : (w : World) → IsOnce w → (n : Name) → in_world w n ≡ true → IsMade w n
made_living w h n is = h.made n (let c = living_counts w n is in omega arith)

pub made_removed : (w : World) → IsOnce w → (n : Name) → is_removed w n ≡ true → IsMade w n
made_removed w h n is = h.made n (let c = removed_counts w n is in omega arith)

-- no removed object lives
pub not_both : (w : World) → IsOnce w → (n : Name) → in_world w n ≡ true → is_removed w n ≡ true → ⊥
not_both w h n lives gone =
    let a = living_counts w n lives in
    let b = removed_counts w n gone in
    let c = h.once n in
    absurd (omega arith)

-- new names are all different
new_once : (lane first : ℕ) (kinds : List Kind) (n : Name) → count_by (same_name n) (names_from lane first kinds) ≤ 1
new_once lane first [] n = omega arith
new_once lane first (k ∷ kinds) n = go (same_name n (record { lane = lane; count = first })) refl (new_once lane (first + 1) kinds n)
  where
    later : same_name n (record { lane = lane; count = first }) ≡ true → has (names_from lane (first + 1) kinds) n ≡ true → ⊥
    later same more =
        let range = names_from_range lane (first + 1) kinds n more in
        let first_is : n.count ≡ first = ap (λ (m : Name). m.count) (same_name_true n (record { lane = lane; count = first }) same) in
        absurd (omega (arith, range.1))

    go : (b : Bool) → same_name n (record { lane = lane; count = first }) ≡ b → count_by (same_name n) (names_from lane (first + 1) kinds) ≤ 1
        → count_by (same_name n) (names_from lane first (k ∷ kinds)) ≤ 1
    go true e rest =
        let c : count_by (same_name n) (names_from lane first (k ∷ kinds)) ≡ 1 + count_by (same_name n) (names_from lane (first + 1) kinds) =
        count-cons (same_name n) (record { lane = lane; count = first }) (names_from lane (first + 1) kinds) ∙ (rw e refl) in
        let none = uncounted (same_name n) (names_from lane (first + 1) kinds) (false_from_ne_true _ (later e)) in
        omega arith
    go false e rest =
        let c : count_by (same_name n) (names_from lane first (k ∷ kinds)) ≡ 0 + count_by (same_name n) (names_from lane (first + 1) kinds) =
        count-cons (same_name n) (record { lane = lane; count = first }) (names_from lane (first + 1) kinds) ∙ (rw e refl) in
        omega arith

pub made_once : (p : Pass) (a : Act) (n : Name) → count_by (same_name n) (made_by p a) ≤ 1
made_once p (act.Make kinds first) n = new_once _ first kinds n
made_once p _ n = omega arith

next_once : (z : Sizes) (s : State) (p : Pass) (a : Act) → MayBy z s p a → Destroying s → IsOnce s.world → IsOnce (next_world s.marks s.world p a)
next_once z s p a may d h = record { made = λ n k. made n k (has (made_by p a) n) refl; once = λ n. once n (has (made_by p a) n) refl }
  where
    made : (n : Name) → 1 ≤ total (same_name n) (next_world s.marks s.world p a) → (b : Bool) → has (made_by p a) n ≡ b → IsMade (next_world s.marks s.world p a) n
    made n k true e = (is_new z s p a n may e).1
    made n k false e =
        let none = uncounted (same_name n) (made_by p a) e in
        let all = next_total z s p a may d.unmarked (same_name n) in
        made_stays s p a n (h.made n (omega arith))

    once : (n : Name) → (b : Bool) → has (made_by p a) n ≡ b → total (same_name n) (next_world s.marks s.world p a) ≤ 1
    once n true e = go (cases_lt (total (same_name n) s.world) 1)
      where
        go : (total (same_name n) s.world < 1) ⊎ (1 ≤ total (same_name n) s.world) → total (same_name n) (next_world s.marks s.world p a) ≤ 1
        go (inl none) =
            let all = next_total z s p a may d.unmarked (same_name n) in
            let one = made_once p a n in
            omega arith
        go (inr some) = absurd ((is_new z s p a n may e).0 (h.made n some))
    once n false e =
        let none = uncounted (same_name n) (made_by p a) e in
        let all = next_total z s p a may d.unmarked (same_name n) in
        let old = h.once n in
        omega arith

-- ---- all of it

-- what holds in every legal history of the places of objects
pub record IsSound (s : State) : Type 0 where
  pub once : IsOnce s.world
  pub destroying : Destroying s
  pub agreed : Agreed s

-- the white units have different members
white_different : (s : State) → IsOnce s.world → all_different (members (white_units s.marks s.world)) ≡ true
white_different s h = different_from_counts (members (white_units s.marks s.world)) (λ n.
    let parts = count_parts (same_name n) (is_marked s.marks) s.world.units in
    let one = h.once n in
    omega arith)

pub next_sound : (z : Sizes) (s : State) (e : Entry) → May z s e → IsSound s → IsSound (next s e)
next_sound z s e may h = record {
  once = next_once z s e.pass e.act may h.destroying h.once;
  destroying = next_destroying z s e.pass e.act may (white_different s h.once) h.agreed h.destroying;
  agreed = next_agreed z s e.pass e.act may h.destroying h.agreed;
}

first_sound : IsSound beginning
first_sound = record {
  once = record { made = λ n k. absurd (omega arith); once = λ n. omega arith };
  destroying = record {
    unmarked = λ e. refl;
    unbegun = λ e r k. absurd k;
    all_there = λ e. refl;
    listed = λ n k. absurd cc;
    covered = λ ne n k. absurd cc;
    whole = λ u n m k. absurd k;
    units_different = refl;
    different = refl;
    all_first = λ n m k. absurd cc;
  };
  agreed = record { gathered = λ n e. absurd cc; begun = λ n e. absurd cc; none_removed = λ n e. absurd cc };
}

pub sound : (z : Sizes) (history : List Entry) → Legal z history → IsSound (state_of history)
sound z = by_states z IsSound first_sound (λ xs e legal may h. next_sound z (state_of xs) e may h)
