-- In every legal history a pair is one object's, and a weak pointer gives that object exactly while it lives.
use Rattle.std.proofs.Common.{◌≡◌, ℕ, ◌+◌, ◌*◌, ◌<◌, refl, sym, subst, ap, ◌∙◌, inl, inr, arith, Bool, cond, true, false, not, ◌&&◌, ◌==◌, List, [], ◌∷◌, ◌++◌, Option, Some, None, ◌⊎◌, is_some, if◌then◌else◌, MatchOption, option_map, option_and_then}
use Rattle.std.specs.List.{find}
use Rattle.std.proofs.lemmas.Bool.{both_ways, false_from_ne_true, eqb-true, eq-eqb}
use Rattle.world_model.specs.Types.{Name, Weak, Pass, Lane, Marker, Collector, Act, Entry}
use Rattle.world_model.specs.Types.act
use Rattle.world_model.specs.Types.begin
use Rattle.world_model.specs.Types.commit
use Rattle.world_model.specs.Sizes.{Sizes, IsLawful}
use Rattle.world_model.specs.NameLists.{same_name, same_weak, has}
use Rattle.world_model.specs.World.{World, Pair, in_world, is_given, drawn, pair_of, resolved}
use Rattle.world_model.specs.State.{State}
use Rattle.world_model.specs.Next.{next_world, next}
use Rattle.world_model.specs.LaneSteps.{DrawsPair}
use Rattle.world_model.specs.Histories.{MayBy, May, Legal, state_of, after}
use Rattle.world_model.specs.Follows.{entry, IsMade, made_by, WasGiven, WeakPointers, Gives, ResolveGives, ResolveGivesNoneAgain, SerialsOnce, NoneComesBack}
use Rattle.world_model.proofs.ListFacts.{and_true, Among, among_append, among_left, among_right, among_contains, contains_among}
use Rattle.world_model.proofs.NameFacts.{same_name_true, same_name_refl}
use Rattle.world_model.proofs.Queues.{find_some, find_none}
use Rattle.world_model.proofs.Inductions.{by_entries, by_states, by_more_states, one_more, all_trivial}
use Rattle.world_model.proofs.Invalid.{garbage_lasts_holds}
use Rattle.world_model.proofs.Counts.{count-append, count-cons}
use Rattle.world_model.proofs.Sound.{IsSound, sound, made_living, made_stays, is_new}
use Rattle.world_model.proofs.Barrier.{IsBarred, barred, lived}
use Rattle.world_model.proofs.Joins.{histories_join}

-- ---- pairs

pub same_weak_true : (a b : Weak) → same_weak a b ≡ true → a ≡ b
same_weak_true a b h =
    let parts = and_true _ _ h in
    let index : a.index ≡ b.index = eqb-true a.index b.index parts.0 in
    let serial : a.serial ≡ b.serial = eqb-true a.serial b.serial parts.1 in
    let with_index : ℕ → Weak = λ i. record { index = i; serial = a.serial } in
    let with_serial : ℕ → Weak = λ s. record { index = b.index; serial = s } in
    ap with_index index ∙ ap with_serial serial

pub same_weak_refl : (p : Weak) → same_weak p p ≡ true
same_weak_refl p = let i : (p.index == p.index) ≡ true = eq-eqb p.index p.index refl in let s : (p.serial == p.serial) ≡ true = eq-eqb p.serial p.serial refl in rw (i, s) refl

-- each pair has one of the serials that its lane has drawn; none has the serial or the object of another
pub record ArePairs (z : Sizes) (w : World) : Type 0 where
  pub serials : (p : Pair) → Among w.pairs p → (k : ℕ) × (k < drawn w p.lane) × (p.weak.serial ≡ (k + 1) * 16 + p.lane)
  pub lanes : (p : Pair) → Among w.pairs p → p.lane < z.lanes
  pub by_serial : (p q : Pair) → Among w.pairs p → Among w.pairs q → p.weak.serial ≡ q.weak.serial → p ≡ q
  pub by_name : (p q : Pair) → Among w.pairs p → Among w.pairs q → p.name ≡ q.name → p ≡ q

-- the pair that an object has
pub pair_found : (w : World) (n : Name) (weak : Weak) → pair_of w n ≡ Some weak → (p : Pair) × Among w.pairs p × (p.name ≡ n) × (p.weak ≡ weak)
pair_found w n weak e = go (find (λ p. same_name n p.name) w.pairs) refl e
  where
    go : (o : Option Pair) → find (λ p. same_name n p.name) w.pairs ≡ o → option_map (λ (p : Pair). p.weak) o ≡ Some weak → (p : Pair) × Among w.pairs p × (p.name ≡ n) × (p.weak ≡ weak)
    go None f e = absurd cc
    go (Some p) f e = let found = find_some (λ p. same_name n p.name) w.pairs p f in (p, found.0, sym (same_name_true n p.name found.1), cc)

pub none_named : (w : World) (n : Name) → pair_of w n ≡ None → (p : Pair) → Among w.pairs p → p.name ≡ n → ⊥
none_named w n e p k same = go (find (λ p. same_name n p.name) w.pairs) refl e
  where
    go : (o : Option Pair) → find (λ p. same_name n p.name) w.pairs ≡ o → option_map (λ (p : Pair). p.weak) o ≡ None → ⊥
    go None f e = both_ways _ (find_none (λ p. same_name n p.name) w.pairs f p k) (subst (λ (m : Name). same_name n m ≡ true) (sym same) (same_name_refl n))
    go (Some p) f e = absurd cc

-- one more pair
module _ (z : Sizes) (w : World) (lane : ℕ) (at : Name) (got : Weak) (lawful : IsLawful z) (in_range : lane < z.lanes) (h : ArePairs z w)
    (draws : DrawsPair z w lane got) (none : pair_of w at ≡ None) where
  abbrev new : Pair
  new = record { weak = got; name = at; lane = lane }

  abbrev more : World
  more = record w { pairs = w.pairs ++ record { weak = got; name = at; lane = lane } ∷ [] }

  drawn_more : (l : ℕ) → drawn more l ≡ drawn w l + cond (lane == l) 1 0
  drawn_more l =
      let all = count-append (λ (p : Pair). p.lane == l) w.pairs (new ∷ []) in
      let one = count-cons (λ (p : Pair). p.lane == l) new [] in
      omega arith

  serial_apart : (p : Pair) → Among w.pairs p → p.weak.serial ≡ got.serial → ⊥
  serial_apart p k same =
      let old = h.serials p k in
      let low = h.lanes p k in
      let few = lawful.few_lanes in
      let serial = draws.serial in
      let place = old.2 in
      let below = old.1 in
      let lane_is : p.lane ≡ lane = omega arith in
      let drawn_is : drawn w p.lane ≡ drawn w lane = ap (drawn w) lane_is in
      absurd (omega arith)

  with_one : ArePairs z more
  with_one = record {
    serials = λ p k. serials p (among_append w.pairs (new ∷ []) p k);
    lanes = λ p k. lanes p (among_append w.pairs (new ∷ []) p k);
    by_serial = λ p q k l. by_serial p q (among_append w.pairs (new ∷ []) p k) (among_append w.pairs (new ∷ []) q l);
    by_name = λ p q k l. by_name p q (among_append w.pairs (new ∷ []) p k) (among_append w.pairs (new ∷ []) q l);
  }
    where
      serials : (p : Pair) → Among w.pairs p ⊎ ((new ≡ p) ⊎ ⊥) → (k : ℕ) × (k < drawn more p.lane) × (p.weak.serial ≡ (k + 1) * 16 + p.lane)
      serials p (inl k) = let old = h.serials p k in let grows = drawn_more p.lane in (old.0, omega (arith, old.1), old.2)
      serials p (inr (inl e)) = subst (λ (q : Pair). (k : ℕ) × (k < drawn more q.lane) × (q.weak.serial ≡ (k + 1) * 16 + q.lane)) e (drawn w lane, last, draws.serial)
        where
          last : drawn w lane < drawn more lane
          last = let grows : drawn more lane ≡ drawn w lane + cond (lane == lane) 1 0 = drawn_more lane in
              let own : (lane == lane) ≡ true = eq-eqb lane lane refl in
              let one : drawn more lane ≡ drawn w lane + 1 = rw own at grows in
              omega arith
      serials p (inr (inr e)) = absurd e

      lanes : (p : Pair) → Among w.pairs p ⊎ ((new ≡ p) ⊎ ⊥) → p.lane < z.lanes
      lanes p (inl k) = h.lanes p k
      lanes p (inr (inl e)) = subst (λ (q : Pair). q.lane < z.lanes) e in_range
      lanes p (inr (inr e)) = absurd e

      by_serial : (p q : Pair) → Among w.pairs p ⊎ ((new ≡ p) ⊎ ⊥) → Among w.pairs q ⊎ ((new ≡ q) ⊎ ⊥) → p.weak.serial ≡ q.weak.serial → p ≡ q
      by_serial p q (inl k) (inl l) same = h.by_serial p q k l same
      by_serial p q (inl k) (inr (inl e)) same = absurd (serial_apart p k (same ∙ ap (λ (x : Pair). x.weak.serial) (sym e)))
      by_serial p q (inr (inl e)) (inl l) same = absurd (serial_apart q l (sym same ∙ ap (λ (x : Pair). x.weak.serial) (sym e)))
      by_serial p q (inr (inl e)) (inr (inl f)) same = sym e ∙ f
      by_serial p q (inr (inr e)) l same = absurd e
      by_serial p q k (inr (inr e)) same = absurd e

      by_name : (p q : Pair) → Among w.pairs p ⊎ ((new ≡ p) ⊎ ⊥) → Among w.pairs q ⊎ ((new ≡ q) ⊎ ⊥) → p.name ≡ q.name → p ≡ q
      by_name p q (inl k) (inl l) same = h.by_name p q k l same
      by_name p q (inl k) (inr (inl e)) same = absurd (none_named w at none p k (same ∙ ap (λ (x : Pair). x.name) (sym e)))
      by_name p q (inr (inl e)) (inl l) same = absurd (none_named w at none q l (sym same ∙ ap (λ (x : Pair). x.name) (sym e)))
      by_name p q (inr (inl e)) (inr (inl f)) same = sym e ∙ f
      by_name p q (inr (inr e)) l same = absurd e
      by_name p q k (inr (inr e)) same = absurd e

-- ---- each entry

next_pairs : (z : Sizes) (s : State) (p : Pass) (a : Act) → IsLawful z → MayBy z s p a → ArePairs z s.world → ArePairs z (next_world s.marks s.world p a)
next_pairs z s (Lane lane) (act.WeakOf at got) lawful may h = go (pair_of s.world at) refl may.may.pair
  where
    go : (o : Option Weak) → pair_of s.world at ≡ o → MatchOption o (DrawsPair z s.world lane got) (λ pair. got ≡ pair)
        → ArePairs z (record s.world { pairs = if is_some o then s.world.pairs else s.world.pairs ++ record { weak = got; name = at; lane = lane } ∷ [] })
    go (Some pair) e m = record { serials = h.serials; lanes = h.lanes; by_serial = h.by_serial; by_name = h.by_name }
    go None e draws = with_one z s.world lane at got lawful may.in_range h draws e
next_pairs z s (Marker marker) (act.WeakOf at got) lawful may h = absurd may.may
next_pairs z s Collector (act.WeakOf at got) lawful may h = absurd may.may
next_pairs z s p (act.BeginGc begin.Started) lawful may h = record { serials = h.serials; lanes = h.lanes; by_serial = h.by_serial; by_name = h.by_name }
next_pairs z s p (act.CommitGc commit.Done) lawful may h = record { serials = h.serials; lanes = h.lanes; by_serial = h.by_serial; by_name = h.by_name }
next_pairs z s p _ lawful may h = record { serials = h.serials; lanes = h.lanes; by_serial = h.by_serial; by_name = h.by_name }

pub pairs : (z : Sizes) → IsLawful z → (history : List Entry) → Legal z history → ArePairs z (after history)
pairs z lawful = by_states z (λ s. ArePairs z s.world) (record { serials = λ p k. absurd k; lanes = λ p k. absurd k; by_serial = λ p q k. absurd k; by_name = λ p q k. absurd k })
    (λ xs e legal may h. next_pairs z (state_of xs) e.pass e.act lawful may h)

-- a pair stays
pairs_stay : (s : State) (p : Pass) (a : Act) (x : Pair) → Among s.world.pairs x → Among (next_world s.marks s.world p a).pairs x
pairs_stay s p (act.WeakOf at got) x k = go (is_some (pair_of s.world at)) _
  where
    go : (b : Bool) (one : List Pair) → Among (if b then s.world.pairs else s.world.pairs ++ one) x
    go true one = k
    go false one = among_left s.world.pairs one x k
pairs_stay s p (act.BeginGc begin.Started) x k = k
pairs_stay s p (act.CommitGc commit.Done) x k = k
pairs_stay s p _ x k = k

-- an entry by which a lane gives an object a pair leaves it
given_pair : (z : Sizes) (s : State) (lane : ℕ) (n : Name) (weak : Weak) → MayBy z s (Lane lane) (act.WeakOf n weak)
    → (p : Pair) × Among (next_world s.marks s.world (Lane lane) (act.WeakOf n weak)).pairs p × (p.name ≡ n) × (p.weak ≡ weak)
given_pair z s lane n weak may = go (pair_of s.world n) refl may.may.pair
  where
    go : (o : Option Weak) → pair_of s.world n ≡ o → MatchOption o (DrawsPair z s.world lane weak) (λ pair. weak ≡ pair)
        → (p : Pair) × Among (if is_some o then s.world.pairs else s.world.pairs ++ record { weak = weak; name = n; lane = lane } ∷ []) p × (p.name ≡ n) × (p.weak ≡ weak)
    go (Some pair) e same = let found = pair_found s.world n pair e in (found.0, found.1, found.2, found.3 ∙ sym same)
    go None e draws = (record { weak = weak; name = n; lane = lane }, among_right s.world.pairs _ _ (inl refl), refl, refl)

-- and no other entry makes one
was_pair : (z : Sizes) (s : State) (p : Pass) (a : Act) (x : Pair) → MayBy z s p a → Among (next_world s.marks s.world p a).pairs x
    → Among s.world.pairs x ⊎ ((lane : ℕ) × (◌≡◌ {A = Entry} (record { pass = p; act = a }) (record { pass = Lane lane; act = act.WeakOf x.name x.weak })))
was_pair z s (Lane lane) (act.WeakOf at got) x may k = go (is_some (pair_of s.world at)) k
  where
    new : Pair
    new = record { weak = got; name = at; lane = lane }

    last : Among s.world.pairs x ⊎ ((new ≡ x) ⊎ ⊥)
        → Among s.world.pairs x
        ⊎ ((l : ℕ)
        × (◌≡◌ {A = Entry} (record { pass = Lane lane; act = act.WeakOf at got }) (record { pass = Lane l; act = act.WeakOf x.name x.weak })))
    last (inl k) = inl k
    last (inr (inl e)) = inr (lane, ap (λ (y : Pair). record { pass = Lane lane; act = act.WeakOf y.name y.weak }) e)
    last (inr (inr e)) = absurd e

    go : (b : Bool) → Among (if b then s.world.pairs else s.world.pairs ++ new ∷ []) x
        → Among s.world.pairs x ⊎ ((l : ℕ) × (◌≡◌ {A = Entry} (record { pass = Lane lane; act = act.WeakOf at got }) (record { pass = Lane l; act = act.WeakOf x.name x.weak })))
    go true k = inl k
    go false k = last (among_append s.world.pairs (new ∷ []) x k)
was_pair z s (Marker marker) (act.WeakOf at got) x may k = absurd may.may
was_pair z s Collector (act.WeakOf at got) x may k = absurd may.may
was_pair z s p (act.BeginGc begin.Started) x may k = inl k
was_pair z s p (act.CommitGc commit.Done) x may k = inl k
was_pair z s p _ x may k = inl k

-- ---- whole histories

given_more : (xs : List Entry) (e : Entry) (n : Name) (weak : Weak) → WasGiven xs n weak → WasGiven (xs ++ e ∷ []) n weak
given_more xs e n weak h = record { lane = h.lane; given = among_contains _ _ (among_left xs (e ∷ []) _ (contains_among xs _ h.given)) }

-- what was given is a pair, and each pair was given
pub record ArePairsGiven (history : List Entry) : Type 0 where
  pub told : (n : Name) (weak : Weak) → WasGiven history n weak → (p : Pair) × Among (after history).pairs p × (p.name ≡ n) × (p.weak ≡ weak)
  pub known : (p : Pair) → Among (after history).pairs p → WasGiven history p.name p.weak

pub pairs_given : (z : Sizes) (history : List Entry) → Legal z history → ArePairsGiven history
pairs_given z = by_entries z ArePairsGiven first step
  where
    first : ArePairsGiven []
    first = record { told = λ n weak h. absurd (contains_among [] _ h.given); known = λ p k. absurd k }

    step : (xs : List Entry) (e : Entry) → Legal z xs → May z (state_of xs) e → ArePairsGiven xs → ArePairsGiven (xs ++ e ∷ [])
    step xs e legal may h = record {
      told = λ n weak given. subst (λ (s : State). (p : Pair) × Among s.world.pairs p × (p.name ≡ n) × (p.weak ≡ weak)) (sym (one_more xs e))
          (told n weak given.lane (among_append xs (e ∷ []) _ (contains_among _ _ given.given)));
      known = λ p k. known p (was_pair z (state_of xs) e.pass e.act p may (subst (λ (s : State). Among s.world.pairs p) (one_more xs e) k));
    }
      where
        told : (n : Name) (weak : Weak) (lane : ℕ) → Among xs (record { pass = Lane lane; act = act.WeakOf n weak }) ⊎ ((e ≡ record { pass = Lane lane; act = act.WeakOf n weak }) ⊎ ⊥)
            → (p : Pair) × Among (next (state_of xs) e).world.pairs p × (p.name ≡ n) × (p.weak ≡ weak)
        told n weak lane (inl k) =
            let old = h.told n weak (record { lane = lane; given = among_contains _ _ k }) in
            (old.0, pairs_stay (state_of xs) e.pass e.act old.0 old.1, old.2, old.3)
        told n weak lane (inr (inl same)) =
            subst (λ (x : Entry). (p : Pair) × Among (next (state_of xs) x).world.pairs p × (p.name ≡ n) × (p.weak ≡ weak)) (sym same)
            (given_pair z (state_of xs) lane n weak (subst (May z (state_of xs)) same may))
        told n weak lane (inr (inr none)) = absurd none

        known : (p : Pair) → Among (after xs).pairs p ⊎ ((lane : ℕ) × (e ≡ record { pass = Lane lane; act = act.WeakOf p.name p.weak })) → WasGiven (xs ++ e ∷ []) p.name p.weak
        known p (inl k) = given_more xs e p.name p.weak (h.known p k)
        known p (inr (lane, same)) = record { lane = lane; given = among_contains _ _ (among_right xs (e ∷ []) _ (inl same)) }

pub serials_once_holds : SerialsOnce
serials_once_holds z lawful history legal p q k l same = (pairs z lawful history legal).by_serial p q (contains_among _ p k) (contains_among _ q l) same

pub weak_pointers_holds : WeakPointers
weak_pointers_holds z lawful history legal = record {
  one_object = λ n m weak a b.
      let p = given.told n weak a in
      let q = given.told m weak b in
      let same : p.0 ≡ q.0 = all.by_serial p.0 q.0 p.1 q.1 (ap (λ (x : Weak). x.serial) (p.3 ∙ sym q.3)) in
      sym p.2 ∙ ap (λ (x : Pair). x.name) same ∙ q.2;
  one_pair = λ n weak other a b.
      let p = given.told n weak a in
      let q = given.told n other b in
      let same : p.0 ≡ q.0 = all.by_name p.0 q.0 p.1 q.1 (p.2 ∙ sym q.2) in
      sym p.3 ∙ ap (λ (x : Pair). x.weak) same ∙ q.3;
  own = λ n weak a. let p = given.told n weak a in
      subst (λ (m : Name). resolved w weak ≡ (if is_given w m then Some m else None)) p.2
      (own p.0 weak p.1 p.3 (find (λ q. same_weak weak q.weak) w.pairs) refl);
  never_given = λ weak never. none weak never (find (λ q. same_weak weak q.weak) w.pairs) refl;
}
  where
    w : World
    w = after history

    given : ArePairsGiven history
    given = pairs_given z history legal

    all : ArePairs z w
    all = pairs z lawful history legal

    gives : Option Pair → Option Name
    gives o = option_and_then (λ p. if is_given w p.name then Some p.name else None) o

    own : (p : Pair) (weak : Weak) → Among w.pairs p → p.weak ≡ weak → (o : Option Pair) → find (λ q. same_weak weak q.weak) w.pairs ≡ o → gives o ≡ (if is_given w p.name then Some p.name else None)
    own p weak k same None e = absurd (both_ways _ (find_none (λ q. same_weak weak q.weak) w.pairs e p k) (subst (λ (x : Weak). same_weak weak x ≡ true) (sym same) (same_weak_refl weak)))
    own p weak k same (Some q) e =
        let found = find_some (λ q. same_weak weak q.weak) w.pairs q e in
        let one : q ≡ p = all.by_serial q p found.0 k (ap (λ (x : Weak). x.serial) (sym (same_weak_true weak q.weak found.1) ∙ sym same)) in
        ap (λ (x : Pair). if is_given w x.name then Some x.name else None) one

    none : (weak : Weak) → ((n : Name) → WasGiven history n weak → ⊥) → (o : Option Pair) → find (λ q. same_weak weak q.weak) w.pairs ≡ o → gives o ≡ None
    none weak never None e = refl
    none weak never (Some q) e =
        let found = find_some (λ q. same_weak weak q.weak) w.pairs q e in
        absurd (never q.name (subst (λ (x : Weak). WasGiven history q.name x) (sym (same_weak_true weak q.weak found.1)) (given.known q found.0)))

-- ---- what a pair gives

-- the pair that an object has
pub has_pair : {z : Sizes} {w : World} → ArePairs z w → (p : Pair) → Among w.pairs p → pair_of w p.name ≡ Some p.weak
has_pair {z} {w} are p k = go (pair_of w p.name) refl
  where
    go : (o : Option Weak) → pair_of w p.name ≡ o → o ≡ Some p.weak
    go None e = absurd (none_named w p.name e p k refl)
    go (Some weak) e =
        let found = pair_found w p.name weak e in
        ap Some (sym found.3 ∙ ap (λ (q : Pair). q.weak) (are.by_name found.0 p found.1 k found.2))

-- the pair of an object gives it, while it lives and is not garbage
pub pair_gives : (z : Sizes) → IsLawful z → (history : List Entry) → Legal z history → (n : Name) (weak : Weak) → pair_of (after history) n ≡ Some weak
    → resolved (after history) weak ≡ (if is_given (after history) n then Some n else None)
pair_gives z lawful history legal n weak e =
    let found = pair_found (after history) n weak e in
    let given = (pairs_given z history legal).known found.0 found.1 in
    (weak_pointers_holds z lawful history legal).own n weak
    (subst (λ (x : Weak). WasGiven history n x) found.3 (subst (λ (m : Name). WasGiven history m found.0.weak) found.2 given))

-- what is the pair of no object that lives gives none
pub no_pair_gives : (z : Sizes) → IsLawful z → (history : List Entry) → Legal z history → (weak : Weak)
    → ((n : Name) → in_world (after history) n ≡ true → pair_of (after history) n ≡ Some weak → ⊥) → resolved (after history) weak ≡ None
no_pair_gives z lawful history legal weak none = go (find (λ q. same_weak weak q.weak) w.pairs) refl
  where
    w : World
    w = after history

    go : (o : Option Pair) → find (λ q. same_weak weak q.weak) w.pairs ≡ o → option_and_then (λ (q : Pair). if is_given w q.name then Some q.name else None) o ≡ None
    go None e = refl
    go (Some q) e = out (in_world w q.name) refl
      where
        found : Among w.pairs q × (same_weak weak q.weak ≡ true)
        found = find_some (λ r. same_weak weak r.weak) w.pairs q e

        out : (b : Bool) → in_world w q.name ≡ b → (if b && not (w.garbage q.name) then Some q.name else None) ≡ None
        out false lives = refl
        out true lives =
            absurd (none q.name lives (has_pair (pairs z lawful history legal) q found.0 ∙ ap Some (sym (same_weak_true weak q.weak found.1))))

-- no pair has the serial 0
pub some_serial : (z : Sizes) → IsLawful z → (history : List Entry) → Legal z history → (n : Name) (weak : Weak) → pair_of (after history) n ≡ Some weak → 0 < weak.serial
some_serial z lawful history legal n weak e =
    let found = pair_found (after history) n weak e in
    let serial = (pairs z lawful history legal).serials found.0 found.1 in
    let same : found.0.weak.serial ≡ weak.serial = ap (λ (x : Weak). x.serial) found.3 in
    omega (arith, serial.2)

-- ---- what does not live

-- what has a pair was made
pub pair_made : (z : Sizes) (history : List Entry) → Legal z history → (p : Pair) → Among (after history).pairs p → IsMade (after history) p.name
pair_made z = by_states z (λ s. (p : Pair) → Among s.world.pairs p → IsMade s.world p.name) (λ p k. absurd k)
    (λ xs e legal may h p k. step (state_of xs) e may (sound z xs legal) (barred z xs legal) h p (was_pair z (state_of xs) e.pass e.act p may k))
  where
    lane_given : (s : State) (e : Entry) (lane : ℕ) (n : Name) (weak : Weak) → May z s e → e ≡ entry (Lane lane) (act.WeakOf n weak) → has (s.frames lane).held n ≡ true
    lane_given s e lane n weak may same = let own : May z s (entry (Lane lane) (act.WeakOf n weak)) = subst (May z s) same may in own.may.held

    step : (s : State) (e : Entry) → May z s e → IsSound s → IsBarred s → ((p : Pair) → Among s.world.pairs p → IsMade s.world p.name) → (p : Pair)
        → Among s.world.pairs p ⊎ ((lane : ℕ) × (e ≡ entry (Lane lane) (act.WeakOf p.name p.weak))) → IsMade (next s e).world p.name
    step s e may known bars h p (inl k) = made_stays s e.pass e.act p.name (h p k)
    step s e may known bars h p (inr (lane, same)) =
        made_stays s e.pass e.act p.name (made_living s.world known.once p.name (bars.holding.lives lane p.name (lane_given s e lane p.name p.weak may same)))

pub none_comes_back_holds : NoneComesBack
none_comes_back_holds z before more legal n made out =
    (by_more_states z before (λ s. IsMade s.world n × (in_world s.world n ≡ false)) (λ e. Unit {0}) (made, out)
    (λ xs e legal may q h. (
      made_stays (state_of xs) e.pass e.act n h.0,
      false_from_ne_true _ (λ lives. again z (state_of xs) e may h.0 h.1 (lived (state_of xs) e.pass e.act n lives)),
    )) more legal (all_trivial more)).1
  where
    again : (z : Sizes) (s : State) (e : Entry) → May z s e → IsMade s.world n → in_world s.world n ≡ false → (in_world s.world n ≡ true) ⊎ (has (made_by e.pass e.act) n ≡ true) → ⊥
    again z s e may made out (inl lives) = both_ways _ out lives
    again z s e may made out (inr new) = (is_new z s e.pass e.act n may new).0 made

pub resolve_gives_holds : ResolveGives
resolve_gives_holds z lawful history lane pair got legal n =
    let parts = (histories_join.one_more z history (entry (Lane lane) (act.Resolve pair got))).0 legal in
    let h = weak_pointers_holds z lawful history parts.0 in
    let got_is : got ≡ resolved (after history) pair = parts.1.may in (
      λ e. given_of (sym got_is ∙ e),
      λ g. got_is ∙ h.own n pair g.given ∙ (rw (g.lives, g.valid) refl),
    )
  where
    valid : (b : Bool) → not b ≡ true → b ≡ false
    valid true e = absurd cc
    valid false e = refl

    -- what a pair gives was given it, lives, and is not garbage
    given_of : resolved (after history) pair ≡ Some n → Gives history pair n
    given_of e = go (find (λ q. same_weak pair q.weak) (after history).pairs) refl e
      where
        all : ArePairsGiven history
        all = pairs_given z history ((histories_join.one_more z history (entry (Lane lane) (act.Resolve pair got))).0 legal).0

        one : (q : Pair) → find (λ q. same_weak pair q.weak) (after history).pairs ≡ Some q → (b : Bool) → is_given (after history) q.name ≡ b
            → (if b then Some q.name else None) ≡ Some n → Gives history pair n
        one q f true is e =
            let found = find_some (λ q. same_weak pair q.weak) (after history).pairs q f in
            let same : q.name ≡ n = cc in
            let both = and_true _ _ (subst (λ (m : Name). is_given (after history) m ≡ true) same is) in
            record {
              given = subst (λ (m : Name). WasGiven history m pair) same (subst (λ (x : Weak). WasGiven history q.name x) (sym (same_weak_true pair q.weak found.1)) (all.known q found.0));
              lives = both.0;
              valid = valid _ both.1;
            }
        one q f false is e = absurd cc

        go : (o : Option Pair) → find (λ q. same_weak pair q.weak) (after history).pairs ≡ o
            → option_and_then (λ p. if is_given (after history) p.name then Some p.name else None) o ≡ Some n → Gives history pair n
        go None f e = absurd cc
        go (Some q) f e = one q f (is_given (after history) q.name) refl e

given_later : (xs ys : List Entry) (n : Name) (weak : Weak) → WasGiven xs n weak → WasGiven (xs ++ ys) n weak
given_later xs ys n weak h = record { lane = h.lane; given = among_contains _ _ (among_left xs ys _ (contains_among xs _ h.given)) }

pub resolve_gives_none_again_holds : ResolveGivesNoneAgain
resolve_gives_none_again_holds z lawful before more n pair given out lane got legal =
    let parts = (histories_join.one_more z (before ++ more) (entry (Lane lane) (act.Resolve pair got))).0 legal in
    let start = ((histories_join.legal z before more).0 parts.0).0 in
    let h = weak_pointers_holds z lawful (before ++ more) parts.0 in
    parts.1.may ∙ h.own n pair (given_later before more n pair given) ∙ not_given parts.0 start out
  where
    not_given : Legal z (before ++ more) → Legal z before → (in_world (after before) n ≡ false) ⊎ ((after before).garbage n ≡ true)
        → (if is_given (after (before ++ more)) n then Some n else None) ≡ None
    not_given legal start (inl out) =
        let p = (pairs_given z before start).told n pair given in
        let is_made = subst (λ (m : Name). IsMade (after before) m) p.2 (pair_made z before start p.0 p.1) in
        let gone = none_comes_back_holds z before more legal n is_made out in
        rw gone refl
    not_given legal start (inr is) =
        let still = garbage_lasts_holds z before more legal n is in
        let none : is_given (after (before ++ more)) n ≡ false = ap (λ (b : Bool). in_world (after (before ++ more)) n && not b) still ∙ and_none (in_world (after (before ++ more)) n) in
        rw none refl
      where
        and_none : (b : Bool) → (b && false) ≡ false
        and_none true = refl
        and_none false = refl
