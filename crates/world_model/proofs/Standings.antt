-- Where something may stand: what names an object, what only made objects have, and the newest moments.
use Rattle.std.proofs.Common.{◌≡◌, ℕ, ◌+◌, ◌-◌, ◌<◌, refl, sym, ap, ◌∙◌, subst, cond, ⊎_elim, Bool, true, false, List, [], ◌∷◌, ◌++◌, length, length-append, arith, Option, Some, None, eqb, map}
use Rattle.std.specs.Prelude.{slice_get}
use Rattle.std.specs.Option.{option_map_or, is_some}
use Rattle.std.specs.List.{AllByRecursion}
use Rattle.std.proofs.Math.ListN.{get_or-append}
use Rattle.std.proofs.lemmas.Bool.{eqb-true}
use Rattle.std.proofs.lemmas.Option.{slice_get_within, slice_get-get_or, get_or_from_slice_get}
use Rattle.world_model.specs.Types.{Name, Weak, Kind, Phase, Gathering, SweepStop, Pass, Lane, Marker, Collector, Act, Entry}
use Rattle.world_model.specs.Types.act
use Rattle.world_model.specs.Types.begin
use Rattle.world_model.specs.Types.commit
use Rattle.world_model.specs.Types.sweep
use Rattle.world_model.specs.Sizes.{Sizes}
use Rattle.world_model.specs.NameLists.{has, set_at, members}
use Rattle.world_model.specs.World.{World, Pair, Removal, Removed, kind_of, refs_of, pair_of}
use Rattle.world_model.specs.State.{State, Marks, Holds, white_units}
use Rattle.world_model.specs.Next.{next, next_world, next_marks, lane_of, settled}
use Rattle.world_model.specs.Histories.{MayBy, Legal, state_of, after}
use Rattle.world_model.specs.Follows.{IsMade}
use Rattle.world_model.specs.Stays.{NamedFromPlaces, OnlyOfMade, BegunBehindGathering, IsNewest, EndNow, MomentsEndNow, KindsStay}
use Rattle.world_model.proofs.ListFacts.{Among, among_append, among_filter, contains_among, all_contain}
use Rattle.world_model.proofs.Inductions.{by_states, by_more_states, all_trivial}
use Rattle.world_model.proofs.Barrier.{set_name_here, cells_after, member_lives, writes, barred}
use Rattle.world_model.proofs.Removals.{held_lives_holds}
use Rattle.world_model.proofs.Sound.{sound, made_living, made_stays, begins_may, releases_may}

-- ---- kinds

slice_get_more : (xs ys : List Kind) (i : ℕ) (k : Kind) → slice_get xs i ≡ Some k → slice_get (xs ++ ys) i ≡ Some k
slice_get_more xs ys i k h =
    let within : i < length xs = slice_get_within xs i k h in
    let all : length (xs ++ ys) ≡ length xs + length ys = length-append xs ys in
    slice_get-get_or (xs ++ ys) i k (omega (arith, within, all)) ∙ ap Some (get_or-append xs ys k i within ∙ get_or_from_slice_get xs i k k h)

more_kinds : (kinds : ℕ → List Kind) (l : ℕ) (more : List Kind) (n : Name) (k : Kind) → slice_get (kinds n.lane) (n.count - 1) ≡ Some k
    → slice_get (set_at kinds l (kinds l ++ more) n.lane) (n.count - 1) ≡ Some k
more_kinds kinds l more n k h = go (eqb n.lane l) refl
  where
    go : (b : Bool) → eqb n.lane l ≡ b → slice_get (cond b (kinds l ++ more) (kinds n.lane)) (n.count - 1) ≡ Some k
    go true e = slice_get_more (kinds l) more (n.count - 1) k (ap (λ (i : ℕ). slice_get (kinds i) (n.count - 1)) (sym (eqb-true n.lane l e)) ∙ h)
    go false e = h

kind_next : (s : State) (p : Pass) (a : Act) (n : Name) (k : Kind) → kind_of s.world n ≡ Some k → kind_of (next_world s.marks s.world p a) n ≡ Some k
kind_next s p (act.Make kinds first) n k h = more_kinds s.world.kinds (lane_of p) kinds n k h
kind_next s p (act.BeginGc begin.Started) n k h = h
kind_next s p (act.CommitGc commit.Done) n k h = h
kind_next s p _ n k h = h

pub kinds_stay_holds : KindsStay
kinds_stay_holds z before more legal n k h =
    by_more_states z before (λ s. kind_of s.world n ≡ Some k) (λ e. Unit {0}) h (λ xs e legal may q was. kind_next (state_of xs) e.pass e.act n k was) more legal (all_trivial more)

-- ---- what names something

abbrev InSlots : World → Name → ℕ → Type 0
InSlots w n slot = slot < refs_of w n

refs_or : (o p : Option Kind) (slot : ℕ) → ((k : Kind) → o ≡ Some k → p ≡ Some k) → slot < option_map_or (λ k. k.refs) o 0 → slot < option_map_or (λ k. k.refs) p 0
refs_or None p slot same h = absurd (omega (arith, h))
refs_or (Some k) p slot same h = rw (same k refl) h

abbrev RefsOnly : World → Type 0
RefsOnly w = (n : Name) (slot : ℕ) (t : Name) → w.cell n slot ≡ Some t → InSlots w n slot

refs_next : (z : Sizes) (s : State) (p : Pass) (a : Act) → MayBy z s p a → RefsOnly s.world → RefsOnly (next_world s.marks s.world p a)
refs_next z s p (act.Make kinds first) may h = λ n slot t is. refs_or (kind_of s.world n) _ slot (λ k e. more_kinds s.world.kinds (lane_of p) kinds n k e) (h n slot t is)
refs_next z s p (act.WriteRef at slot to old) may h = λ n other t is.
    cells_after s.world.cell at slot to (λ m i o. o ≡ Some t → InSlots s.world m i) (λ e. (writes z s p at slot to old may).2.place.in_range) (λ m i e. h m i t e) n other is
refs_next z s p (act.BeginGc begin.Started) may h = h
refs_next z s p (act.CommitGc commit.Done) may h = h
refs_next z s p _ may h = h

abbrev StrongInRange : Sizes → World → Type 0
StrongInRange z w = (l h : ℕ) (n : Name) → w.strong l h ≡ Some n → (l < z.lanes) × (h < z.strong)

sets_may : (z : Sizes) (s : State) (p : Pass) (h : ℕ) (to old : Option Name) → MayBy z s p (act.SetStrong h to old) → (lane_of p < z.lanes) × (h < z.strong)
sets_may z s (Lane l) h to old may = (may.in_range, may.may.number)
sets_may z s (Marker m) h to old may = absurd may.may
sets_may z s Collector h to old may = absurd may.may

strong_next : (z : Sizes) (s : State) (p : Pass) (a : Act) → MayBy z s p a → StrongInRange z s.world → StrongInRange z (next_world s.marks s.world p a)
strong_next z s p (act.SetStrong h to old) may was = λ l g n is. go l g n (eqb l (lane_of p)) refl (eqb g h) refl is
  where
    go : (l g : ℕ) (n : Name) (a : Bool) → eqb l (lane_of p) ≡ a → (b : Bool) → eqb g h ≡ b
        → cond a (λ (i : ℕ). cond (eqb i h) to (s.world.strong (lane_of p) i)) (s.world.strong l) g ≡ Some n → (l < z.lanes) × (g < z.strong)
    go l g n true e true f is = let m = sets_may z s p h to old may in (rw (eqb-true l (lane_of p) e) m.0, rw (eqb-true g h f) m.1)
    go l g n true e false f is = let r = was (lane_of p) g n (ap (λ (b : Bool). cond b to (s.world.strong (lane_of p) g)) (sym f) ∙ is) in (rw (eqb-true l (lane_of p) e) r.0, r.1)
    go l g n false e b f is = was l g n is
strong_next z s p (act.BeginGc begin.Started) may was = was
strong_next z s p (act.CommitGc commit.Done) may was = was
strong_next z s p _ may was = was

pub named_from_places_holds : NamedFromPlaces
named_from_places_holds z history legal = record {
  cells = λ at slot n is. (
    (barred z history legal).named.blank at slot n is,
    by_states z (λ s. RefsOnly s.world) (λ n slot t is. absurd cc) (λ xs e legal may h. refs_next z (state_of xs) e.pass e.act may h) history legal at slot n is,
  );
  strong = by_states z (λ s. StrongInRange z s.world) (λ l h n is. absurd cc) (λ xs e legal may h. strong_next z (state_of xs) e.pass e.act may h) history legal;
}

-- ---- what only made objects have

held_made : (z : Sizes) (xs : List Entry) (l : ℕ) (n : Name) → Legal z xs → Holds (state_of xs) l n → IsMade (after xs) n
held_made z xs l n legal held = made_living (after xs) (sound z xs legal).once n (held_lives_holds z xs legal l n held).0

abbrev PlainMade : World → Type 0
PlainMade w = (n : Name) (slot : ℕ) → (IsMade w n → ⊥) → w.plain n slot ≡ 0

writes_plain : (z : Sizes) (s : State) (p : Pass) (at : Name) (slot value old : ℕ) → MayBy z s p (act.WritePlain at slot value old) → (l : ℕ) × Holds s l at
writes_plain z s (Lane l) at slot value old may = (l, may.may.0.held)
writes_plain z s (Marker m) at slot value old may = absurd may.may
writes_plain z s Collector at slot value old may = absurd may.may

plain_next : (z : Sizes) (xs : List Entry) (p : Pass) (a : Act) → Legal z xs → MayBy z (state_of xs) p a → PlainMade (after xs) → PlainMade (next_world (state_of xs).marks (after xs) p a)
plain_next z xs p (act.WritePlain at slot value old) legal may h = λ n i unmade.
    set_name_here {A = ℕ → ℕ} (after xs).plain at (set_at ((after xs).plain at) slot value) (λ m f. (IsMade (after xs) m → ⊥) → f i ≡ 0)
    (λ off. let held = writes_plain z (state_of xs) p at slot value old may in absurd (off (held_made z xs held.0 at legal held.1))) (λ m off. h m i off) n unmade
plain_next z xs p (act.Make kinds first) legal may h = λ n i unmade. h n i (λ m. unmade (made_stays (state_of xs) p (act.Make kinds first) n m))
plain_next z xs p (act.BeginGc begin.Started) legal may h = h
plain_next z xs p (act.CommitGc commit.Done) legal may h = h
plain_next z xs p _ legal may h = h

abbrev PairsMade : World → Type 0
PairsMade w = (q : Pair) → Among w.pairs q → IsMade w q.name

draws_pair : (z : Sizes) (s : State) (p : Pass) (at : Name) (got : Weak) → MayBy z s p (act.WeakOf at got) → (l : ℕ) × Holds s l at
draws_pair z s (Lane l) at got may = (l, may.may.held)
draws_pair z s (Marker m) at got may = absurd may.may
draws_pair z s Collector at got may = absurd may.may

pairs_next : (z : Sizes) (xs : List Entry) (p : Pass) (a : Act) → Legal z xs → MayBy z (state_of xs) p a → PairsMade (after xs) → PairsMade (next_world (state_of xs).marks (after xs) p a)
pairs_next z xs p (act.WeakOf at got) legal may h = λ q k. go (is_some (pair_of (after xs) at)) q k
  where
    new : Pair
    new = record { weak = got; name = at; lane = lane_of p }

    at_made : IsMade (after xs) at
    at_made = let held = draws_pair z (state_of xs) p at got may in held_made z xs held.0 at legal held.1

    go : (b : Bool) (q : Pair) → Among (cond b (after xs).pairs ((after xs).pairs ++ new ∷ [])) q → IsMade (after xs) q.name
    go true q k = h q k
    go false q k =
        ⊎_elim (λ a. h q a) (λ b. ⊎_elim (λ (same : new ≡ q). subst (λ (r : Pair). IsMade (after xs) r.name) same at_made) (λ e. absurd e) b)
        (among_append (after xs).pairs (new ∷ []) q k)
pairs_next z xs p (act.Make kinds first) legal may h = λ q k. made_stays (state_of xs) p (act.Make kinds first) q.name (h q k)
pairs_next z xs p (act.BeginGc begin.Started) legal may h = h
pairs_next z xs p (act.CommitGc commit.Done) legal may h = h
pairs_next z xs p _ legal may h = h

abbrev LastMade : World → Type 0
LastMade w = (u : List Name) (n : Name) → Among w.last_removed u → has u n ≡ true → IsMade w n

last_next : (z : Sizes) (xs : List Entry) (p : Pass) (a : Act) → Legal z xs → MayBy z (state_of xs) p a → LastMade (after xs) → LastMade (next_world (state_of xs).marks (after xs) p a)
last_next z xs p (act.CommitGc commit.Done) legal may h = λ u n k m. made_living (after xs) (sound z xs legal).once n (member_lives (after xs) u n (among_filter _ (after xs).units u k) m)
last_next z xs p (act.Make kinds first) legal may h = λ u n k m. made_stays (state_of xs) p (act.Make kinds first) n (h u n k m)
last_next z xs p (act.BeginGc begin.Started) legal may h = h
last_next z xs p _ legal may h = h

pub only_of_made_holds : OnlyOfMade
only_of_made_holds z history legal =
    let noted = (barred z history legal).noted in
    let pairs = by_states z (λ s. PairsMade s.world) (λ q k. absurd k) (λ xs e legal may h. pairs_next z xs e.pass e.act legal may h) history legal in
    let last = by_states z (λ s. LastMade s.world) (λ u n k. absurd k) (λ xs e legal may h. last_next z xs e.pass e.act legal may h) history legal in
    record {
      plain = by_states z (λ s. PlainMade s.world) (λ n i off. refl) (λ xs e legal may h. plain_next z xs e.pass e.act legal may h) history legal;
      pairs = λ p k. pairs p (contains_among _ p k);
      kept = noted.kept_made;
      fresh = noted.fresh_made;
      scanned = noted.scanned_made;
      removed = λ u n k m. last u n (contains_among _ u k) m;
    }

-- ---- while removed objects are being found none is begun

abbrev IsFresh : Removal → Type 0
IsFresh r = (r.stage ≡ Removed) × (r.polls ≡ 0)

abbrev FreshRemovals : State → Type 0
FreshRemovals s = s.world.phase ≡ Gathering → AllByRecursion IsFresh s.world.removals

fresh_all : (ns : List Name) → AllByRecursion {X = Removal} IsFresh (map (λ n. record { name = n; stage = Removed; polls = 0 }) ns)
fresh_all [] = tt
fresh_all (n ∷ ns) = ((refl, refl), fresh_all ns)

settled_gathering : (phase : Phase) (stop : SweepStop) → settled phase stop ≡ Gathering → phase ≡ Gathering
settled_gathering phase sweep.Settled h = absurd cc
settled_gathering phase sweep.More h = h
settled_gathering phase (sweep.NotGathering p) h = h

asks_may : (z : Sizes) (s : State) (p : Pass) (of : Name) (poll : ℕ) (answer : Bool) → MayBy z s p (act.Asked of poll answer) → s.world.phase ≡ Gathering → ⊥
asks_may z s (Lane l) of poll answer may = absurd may.may
asks_may z s (Marker m) of poll answer may = absurd may.may
asks_may z s Collector of poll answer may = may.may.gathered

ends_may : (z : Sizes) (s : State) (p : Pass) (of : Name) → MayBy z s p (act.Finished of) → s.world.phase ≡ Gathering → ⊥
ends_may z s (Lane l) of may = absurd may.may
ends_may z s (Marker m) of may = absurd may.may
ends_may z s Collector of may = may.may

fresh_next : (z : Sizes) (s : State) (p : Pass) (a : Act) → MayBy z s p a → FreshRemovals s → FreshRemovals (next s (record { pass = p; act = a }))
fresh_next z s p (act.BeginGc begin.Started) may h = λ g. absurd cc
fresh_next z s p (act.CommitGc commit.Done) may h = λ g. fresh_all (members (white_units s.marks s.world))
fresh_next z s p (act.Sweep budget reply names) may h = λ g. h (settled_gathering s.world.phase reply.stop g)
fresh_next z s p (act.Begun of) may h = λ g. absurd ((begins_may z s p of may).gathered g)
fresh_next z s p (act.Asked of poll answer) may h = λ g. absurd (asks_may z s p of poll answer may g)
fresh_next z s p (act.Finished of) may h = λ g. absurd (ends_may z s p of may g)
fresh_next z s p (act.Released of) may h = λ g. absurd ((releases_may z s p of may).gathered g)
fresh_next z s p _ may h = h

pub begun_behind_gathering_holds : BegunBehindGathering
begun_behind_gathering_holds z history legal gathering r k =
    all_contain IsFresh (after history).removals (by_states z FreshRemovals (λ g. absurd cc) (λ xs e legal may h. fresh_next z (state_of xs) e.pass e.act may h) history legal gathering) r k

-- ---- the newest moment is now

newest_mark : (m : Marks) (w : World) (p : Pass) (a : Act) → IsNewest w (next_marks m w p a).moments
newest_mark m w p (act.BeginGc begin.Started) = refl
newest_mark m w p (act.Kept of) = refl
newest_mark m w p (act.Make kinds first) = refl
newest_mark m w p (act.Scanned of) = refl
newest_mark m w p (act.Loose of) = refl
newest_mark m w p _ = refl

pub moments_end_now_holds : MomentsEndNow
moments_end_now_holds z history legal =
    by_states z EndNow (record { slices = λ m h. absurd cc; marks = λ h. absurd cc })
    (λ xs e legal may h. record { slices = λ m op. refl; marks = λ marking. newest_mark (state_of xs).marks (next (state_of xs) e).world e.pass e.act }) history legal
