-- Removed objects, in every legal history: what is known of them in each phase.
use Rattle.std.proofs.Common.{◌≡◌, ◌≢◌, ℕ, refl, sym, subst, ap, ◌∙◌, inl, inr, Bool, cond, true, false, not, ◌&&◌, if◌then◌else◌, List, [], ◌∷◌, ◌++◌, map, filter, flat_map, append-nil, Option, Some, None, ◌⊎◌}
use Rattle.std.specs.List.{list_any, list_all}
use Rattle.std.proofs.lemmas.Bool.{both_ways, not-true, not_from_false, false_from_ne_true, true_from_ne_false, and_from}
use Rattle.std.proofs.lemmas.Map.Views.{any-filter_same}
use Rattle.world_model.specs.Types.{Name, Swept, SweepStop, Phase, Marking, Gathering, Pass, Lane, Marker, Collector, Act}
use Rattle.world_model.specs.Types.act
use Rattle.world_model.specs.Types.begin
use Rattle.world_model.specs.Types.commit
use Rattle.world_model.specs.Types.sweep
use Rattle.world_model.specs.Sizes.{Sizes}
use Rattle.world_model.specs.NameLists.{same_name, has, all_different, members, begins_with}
use Rattle.world_model.specs.World.{World, Removal, Stage, Removed, Begun, Finished, has_stage, is_at, destruction_order}
use Rattle.world_model.specs.State.{State, white_units}
use Rattle.world_model.specs.Next.{next_world, next_by, settled, removal_with, at_stage, polled, released}
use Rattle.world_model.specs.CollectorSteps.{SweepMay, to_begin, to_release, round_from, Asks}
use Rattle.world_model.specs.Histories.{MayBy}
use Rattle.world_model.specs.DestructionQueue.{in_removals, in_order}
use Rattle.world_model.proofs.ListFacts.{and_true, or_true, Among, filter_among, among_left, among_right, test_among}
use Rattle.world_model.proofs.NameFacts.{same_name_true, same_name_refl, has_among}
use Rattle.world_model.proofs.Rounds.{named, stands, in_removals_at, is_at-at_stage_same, is_at-at_stage_other, is_at-polled, begins_has, one_begins, has-released_by, is_at-released, released_by}
use Rattle.world_model.proofs.Queues.{names_kept, names_left, named_any, fresh, find_some, find_none, unit_with, member_of, unit_in_order, all_at, ready_unit, one_unit}
use Rattle.world_model.proofs.Counts.{names_of, names_new}

-- the units of the last removal whose first members are found
abbrev pub order_of : List (List Name) → List Name → List (List Name)
order_of gone found = flat_map (λ n. filter (begins_with n) gone) found

-- the removed objects: while a collection marks there is none; while they are gathered all are there and none is begun; and then they are begun in their order, all before the first one is finished
pub record IsDestroying (phase : Phase) (rs : List Removal) (gone : List (List Name)) (found : List Name) : Type 0 where
  pub unmarked : phase ≡ Marking → rs ≡ []
  pub unbegun : phase ≡ Gathering → (r : Removal) → Among rs r → r.stage ≡ Removed
  pub all_there : phase ≡ Gathering → names_of rs ≡ members gone
  pub listed : (n : Name) → list_any (named n) rs ≡ true → has (members gone) n ≡ true
  pub covered : phase ≢ Gathering → (n : Name) → list_any (named n) rs ≡ true → has (members (order_of gone found)) n ≡ true
  pub whole : (u : List Name) (n m : Name) → Among gone u → has u n ≡ true → has u m ≡ true → list_any (named n) rs ≡ true → list_any (named m) rs ≡ true
  pub units_different : all_different (members gone) ≡ true
  pub different : all_different (names_of rs) ≡ true
  pub all_first : (n m : Name) → list_any (stands n Removed) rs ≡ true → has (members gone) m ≡ true
      → (list_any (named m) rs ≡ true) × (list_any (stands m Finished) rs ≡ false)

-- an object that agreed is begun, as all are
pub record IsAgreed (agreed : Option Name) (phase : Phase) (rs : List Removal) : Type 0 where
  pub gathered : (n : Name) → agreed ≡ Some n → phase ≢ Gathering
  pub begun : (n : Name) → agreed ≡ Some n → list_any (stands n Begun) rs ≡ true
  pub none_removed : (n : Name) → agreed ≡ Some n → (m : Name) → list_any (stands m Removed) rs ≡ false

-- the same of a state
abbrev pub Destroying : State → Type 0
Destroying s = IsDestroying s.world.phase s.world.removals s.world.last_removed s.world.found

abbrev pub Agreed : State → Type 0
Agreed s = IsAgreed s.collector.agreed s.world.phase s.world.removals

-- ---- where none is to be begun, none is Removed

pub none_to_begin : (w : World) → IsDestroying w.phase w.removals w.last_removed w.found → w.phase ≢ Gathering → to_begin w ≡ None → (n : Name) → is_at w Removed n ≡ false
none_to_begin w h gathered none n = false_from_ne_true _ (λ is.
    let known = h.covered gathered n (in_removals_at w Removed n is) in
    both_ways _ (find_none (is_at w Removed) (in_order w) none n (has_among (in_order w) n known)) is)

-- ---- a commit

pub among_new : (ns : List Name) (r : Removal) → Among (map (λ n. record { name = n; stage = Removed; polls = 0 }) ns) r → r.stage ≡ Removed
among_new [] r k = absurd k
among_new (n ∷ ns) r (inl e) = sym (ap (λ (x : Removal). x.stage) e)
among_new (n ∷ ns) r (inr k) = among_new ns r k

committed_destroying : (gone : List (List Name)) → all_different (members gone) ≡ true
    → IsDestroying Gathering (map (λ n. record { name = n; stage = Removed; polls = 0 }) (members gone)) gone []
committed_destroying gone different = record {
  unmarked = λ e. absurd cc;
  unbegun = λ e r k. among_new (members gone) r k;
  all_there = λ e. names_new (members gone);
  listed = λ n k. sym (is_named n) ∙ k;
  covered = λ ne. absurd (ne refl);
  whole = λ u n m k a b c. is_named m ∙ member_of gone u m k b;
  units_different = different;
  different = ap all_different (names_new (members gone)) ∙ different;
  all_first = λ n m a b. (is_named m ∙ b, fresh m Finished rs (λ r k. among_new (members gone) r k));
}
  where
    rs : List Removal
    rs = map (λ n. record { name = n; stage = Removed; polls = 0 }) (members gone)

    is_named : (n : Name) → list_any (named n) rs ≡ has (members gone) n
    is_named n = sym (named_any n rs) ∙ ap (λ (ns : List Name). has ns n) (names_new (members gone))

-- ---- sweeps

-- when all are found, the units of all are
all_covered : (rs : List Removal) (gone : List (List Name)) (found : List Name) → names_of rs ≡ members gone → ((n : Name) → list_any (named n) rs ≡ true → has found n ≡ true)
    → (n : Name) → list_any (named n) rs ≡ true → has (members (order_of gone found)) n ≡ true
all_covered rs gone found are all n k = go (unit_with gone n (sym (in_gone n) ∙ k))
  where
    in_gone : (n : Name) → list_any (named n) rs ≡ has (members gone) n
    in_gone n = sym (named_any n rs) ∙ ap (λ (ns : List Name). has ns n) are

    first : (u : List Name) → Among gone u → has u n ≡ true → (f : Name) × (begins_with f u ≡ true)
    first [] k h = absurd cc
    first (f ∷ u) k h = (f, same_name_refl f)

    in_order_of : (found : List Name) (f : Name) (u : List Name) → Among gone u → begins_with f u ≡ true → has found f ≡ true → Among (order_of gone found) u
    in_order_of [] f u k b h = absurd cc
    in_order_of (g ∷ found) f u k b h = front (or_true _ _ h) (in_order_of found f u k b)
      where
        front : (same_name f g ≡ true) ⊎ (has found f ≡ true) → (has found f ≡ true → Among (order_of gone found) u) → Among (order_of gone (g ∷ found)) u
        front (inl e) rest =
            among_left (filter (begins_with g) gone) (order_of gone found) u
            (filter_among (begins_with g) gone u k (subst (λ (x : Name). begins_with x u ≡ true) (same_name_true f g e) b))
        front (inr e) rest = among_right (filter (begins_with g) gone) (order_of gone found) u (rest e)

    go : ((u : List Name) × Among gone u × (has u n ≡ true)) → has (members (order_of gone found)) n ≡ true
    go (u, k, h) =
        let f = first u k h in
        let there = all f.0 (in_gone f.0 ∙ member_of gone u f.0 k (begins_has f.0 u f.1)) in
        member_of (order_of gone found) u n (in_order_of found f.0 u k f.1 there) h

swept_destroying : (z : Sizes) (s : State) (budget : ℕ) (reply : Swept) (names : List Name) (stop : SweepStop) → SweepMay z s budget reply names stop → Destroying s
    → IsDestroying (settled s.world.phase stop) s.world.removals s.world.last_removed (s.world.found ++ names)
swept_destroying z s budget reply names sweep.More may h = record {
  unmarked = h.unmarked;
  unbegun = h.unbegun;
  all_there = h.all_there;
  listed = h.listed;
  covered = λ ne. absurd (ne may.0.gathering);
  whole = h.whole;
  units_different = h.units_different;
  different = h.different;
  all_first = h.all_first;
}
swept_destroying z s budget reply names sweep.Settled may h = record {
  unmarked = λ e. absurd cc;
  unbegun = λ e. absurd cc;
  all_there = λ e. absurd cc;
  listed = h.listed;
  covered = λ ne. all_covered s.world.removals s.world.last_removed (s.world.found ++ names) (h.all_there may.0.gathering) (λ n k.
      let r = test_among (named n) s.world.removals k in
      ap (has (s.world.found ++ names)) (same_name_true n r.0.name r.2) ∙ all_at (λ r. has (s.world.found ++ names) r.name) s.world.removals r.0 may.2 r.1);
  whole = h.whole;
  units_different = h.units_different;
  different = h.different;
  all_first = h.all_first;
}
swept_destroying z s budget reply names (sweep.NotGathering phase) may h =
    subst (λ (found : List Name). IsDestroying s.world.phase s.world.removals s.world.last_removed found) (sym (ap (λ (ns : List Name). s.world.found ++ ns) may.4 ∙ append-nil s.world.found)) h

-- ---- one removed object changes

pub named_kept : (n : Name) (change : Removal → Removal) → ((r : Removal) → (change r).name ≡ r.name) → (rs : List Removal) (m : Name)
    → list_any (named m) (map (λ r. if same_name n r.name then change r else r) rs) ≡ list_any (named m) rs
named_kept n change same rs m =
    sym (named_any m (map (λ r. if same_name n r.name then change r else r) rs)) ∙ ap (λ (ns : List Name). has ns m) (names_kept n change same rs) ∙ named_any m rs

changed : (w : World) (n : Name) (change : Removal → Removal) → ((r : Removal) → (change r).name ≡ r.name) → w.phase ≢ Gathering
    → ((a b : Name) → is_at (removal_with w n change) Removed a ≡ true → has (members w.last_removed) b ≡ true
    → (in_removals (removal_with w n change) b ≡ true) × (is_at (removal_with w n change) Finished b ≡ false))
    → IsDestroying w.phase w.removals w.last_removed w.found → IsDestroying w.phase (removal_with w n change).removals w.last_removed w.found
changed w n change same gathered first h = record {
  unmarked = λ e. ap (λ (rs : List Removal). map {A = Removal} (λ r. if same_name n r.name then change r else r) rs) (h.unmarked e);
  unbegun = λ e. absurd (gathered e);
  all_there = λ e. absurd (gathered e);
  listed = λ m k. h.listed m (sym (left m) ∙ k);
  covered = λ ne m k. h.covered ne m (sym (left m) ∙ k);
  whole = λ u a b k c d e. left b ∙ h.whole u a b k c d (sym (left a) ∙ e);
  units_different = h.units_different;
  different = ap all_different (names_kept n change same w.removals) ∙ h.different;
  all_first = first;
}
  where
    left : (m : Name) → list_any (named m) (removal_with w n change).removals ≡ list_any (named m) w.removals
    left m = named_kept n change same w.removals m

-- the stage of an object after one changed its stage
staged : (w : World) (of : Name) (new stage : Stage) (n : Name) → is_at (at_stage w of new) stage n ≡ cond (same_name of n) (has_stage stage new && in_removals w n) (is_at w stage n)
staged w of new stage n = go (same_name of n) refl
  where
    go : (b : Bool) → same_name of n ≡ b → is_at (at_stage w of new) stage n ≡ cond b (has_stage stage new && in_removals w n) (is_at w stage n)
    go true e = subst (λ (m : Name). is_at (at_stage w of new) stage m ≡ (has_stage stage new && in_removals w m)) (same_name_true of n e) (is_at-at_stage_same w of new stage)
    go false e = is_at-at_stage_other w of new stage n e

-- no more objects than before are at a stage that is not the new one
not_more : (w : World) (of : Name) (new stage : Stage) (n : Name) → has_stage stage new ≡ false → is_at w stage n ≡ false → is_at (at_stage w of new) stage n ≡ false
not_more w of new stage n apart out = staged w of new stage n ∙ go (same_name of n)
  where
    go : (b : Bool) → cond b (has_stage stage new && in_removals w n) (is_at w stage n) ≡ false
    go true = rw apart refl
    go false = out

was_there : (w : World) (of : Name) (new stage : Stage) (n : Name) → has_stage stage new ≡ false → is_at (at_stage w of new) stage n ≡ true → is_at w stage n ≡ true
was_there w of new stage n apart is = true_from_ne_false _ (λ out. both_ways _ (not_more w of new stage n apart out) is)

begun_destroying : (w : World) (of : Name) → w.phase ≢ Gathering → IsDestroying w.phase w.removals w.last_removed w.found → IsDestroying w.phase (at_stage w of Begun).removals w.last_removed w.found
begun_destroying w of gathered h = changed w of (λ r. record r { stage = Begun }) (λ r. refl) gathered (λ a b is k.
    let before = h.all_first a b (was_there w of Begun Removed a refl is) k in
    (named_kept of (λ r. record r { stage = Begun }) (λ r. refl) w.removals b ∙ before.0, not_more w of Begun Finished b refl before.1)) h

polled_destroying : (w : World) (of : Name) (polls : ℕ) → w.phase ≢ Gathering → IsDestroying w.phase w.removals w.last_removed w.found
    → IsDestroying w.phase (polled w of polls).removals w.last_removed w.found
polled_destroying w of polls gathered h = changed w of (λ r. record r { polls = polls }) (λ r. refl) gathered (λ a b is k.
    let before = h.all_first a b (sym (is_at-polled w of polls Removed a) ∙ is) k in
    (named_kept of (λ r. record r { polls = polls }) (λ r. refl) w.removals b ∙ before.0, is_at-polled w of polls Finished b ∙ before.1)) h

finished_destroying : (w : World) (of : Name) → w.phase ≢ Gathering → ((n : Name) → is_at w Removed n ≡ false) → IsDestroying w.phase w.removals w.last_removed w.found
    → IsDestroying w.phase (at_stage w of Finished).removals w.last_removed w.found
finished_destroying w of gathered none h = changed w of (λ r. record r { stage = Finished }) (λ r. refl) gathered (λ a b is k.
    absurd (both_ways _ (none a) (was_there w of Finished Removed a refl is))) h

-- ---- a unit is released

-- the unit that is released: all its members are finished, and they are what leaves
pub released_unit : (w : World) (of : Name) → all_different (members w.last_removed) ≡ true → to_release w ≡ Some of
    → (u : List Name) × Among w.last_removed u × (list_all (is_at w Finished) u ≡ true) × ((n : Name) → has (released_by w of) n ≡ has u n)
released_unit w of different next =
    let u = ready_unit (list_all (is_at w Finished)) (destruction_order w) of (sym next) in
    let last = (unit_in_order w.last_removed w.found u.0 u.1).0 in
    (u.0, last, u.2, has-released_by w of u.0 last u.3 (λ v k b. one_begins of w.last_removed u.0 v different last k u.3 b))

-- what is removed after a release
pub left_after : (w : World) (of n : Name) → in_removals (released w of) n ≡ (not (has (released_by w of) n) && in_removals w n)
left_after w of n =
    any-filter_same (named n) (λ r. not (has (released_by w of) r.name)) (not (has (released_by w of) n))
    (λ r e. ap (λ (m : Name). not (has (released_by w of) m)) (sym (same_name_true n r.name e))) w.removals

released_destroying : (w : World) (of : Name) → w.phase ≢ Gathering → ((n : Name) → is_at w Removed n ≡ false) → to_release w ≡ Some of
    → IsDestroying w.phase w.removals w.last_removed w.found → IsDestroying w.phase (released w of).removals w.last_removed w.found
released_destroying w of gathered none next h = record {
  unmarked = λ e. ap (λ (rs : List Removal). filter (λ r. not (has (released_by w of) r.name)) rs) (h.unmarked e);
  unbegun = λ e. absurd (gathered e);
  all_there = λ e. absurd (gathered e);
  listed = λ m k. h.listed m (parts m k).1;
  covered = λ ne m k. h.covered ne m (parts m k).1;
  whole = λ u a b k c d e. left_after w of b ∙ and_from _ _ (stays u a b k c d (parts a e).0) (h.whole u a b k c d (parts a e).1);
  units_different = h.units_different;
  different = names_left (λ r. not (has (released_by w of) r.name)) w.removals h.different;
  all_first = λ a b is k. absurd (both_ways _ (none a) (and_true _ _ (sym (is_at-released w of Removed a) ∙ is)).1);
}
  where
    parts : (n : Name) → in_removals (released w of) n ≡ true → (not (has (released_by w of) n) ≡ true) × (in_removals w n ≡ true)
    parts n k = and_true _ _ (sym (left_after w of n) ∙ k)

    -- an object of a unit with one that stays is not of the unit that is released
    stays : (u : List Name) (a b : Name) → Among w.last_removed u → has u a ≡ true → has u b ≡ true → not (has (released_by w of) a) ≡ true → not (has (released_by w of) b) ≡ true
    stays u a b k c d out = not_from_false _ (false_from_ne_true _ (λ gone.
        let unit = released_unit w of h.units_different next in
        let same : unit.0 ≡ u = one_unit w.last_removed unit.0 u b h.units_different unit.1 k (sym (unit.3 b) ∙ gone) d in
        both_ways (has (released_by w of) a) (not-true _ out) (unit.3 a ∙ subst (λ (v : List Name). has v a ≡ true) (sym same) c)))

-- ---- each step

pub next_destroying : (z : Sizes) (s : State) (p : Pass) (a : Act) → MayBy z s p a → all_different (members (white_units s.marks s.world)) ≡ true → Agreed s → Destroying s
    → Destroying (next_by s (next_world s.marks s.world p a) p a)
next_destroying z s Collector (act.BeginGc begin.Started) may white agreed h = record {
  unmarked = λ e. may.may.0.released;
  unbegun = λ e. absurd cc;
  all_there = λ e. absurd cc;
  listed = h.listed;
  covered = λ ne n k. absurd (both_ways (list_any (named n) s.world.removals) (ap (list_any (named n)) may.may.0.released) k);
  whole = h.whole;
  units_different = h.units_different;
  different = h.different;
  all_first = h.all_first;
}
next_destroying z s (Lane lane) (act.BeginGc begin.Started) may white agreed h = absurd may.may
next_destroying z s (Marker marker) (act.BeginGc begin.Started) may white agreed h = absurd may.may
next_destroying z s p (act.CommitGc commit.Done) may white agreed h = committed_destroying (white_units s.marks s.world) white
next_destroying z s Collector (act.Sweep budget reply names) may white agreed h = swept_destroying z s budget reply names reply.stop may.may h
next_destroying z s (Lane lane) (act.Sweep budget reply names) may white agreed h = absurd may.may
next_destroying z s (Marker marker) (act.Sweep budget reply names) may white agreed h = absurd may.may
next_destroying z s Collector (act.Begun of) may white agreed h = begun_destroying s.world of may.may.gathered h
next_destroying z s (Lane lane) (act.Begun of) may white agreed h = absurd may.may
next_destroying z s (Marker marker) (act.Begun of) may white agreed h = absurd may.may
next_destroying z s Collector (act.Asked of poll answer) may white agreed h = polled_destroying s.world of poll may.may.gathered h
next_destroying z s (Lane lane) (act.Asked of poll answer) may white agreed h = absurd may.may
next_destroying z s (Marker marker) (act.Asked of poll answer) may white agreed h = absurd may.may
next_destroying z s Collector (act.Finished of) may white agreed h = finished_destroying s.world of may.may (agreed.none_removed of may.finishes) h
next_destroying z s (Lane lane) (act.Finished of) may white agreed h = absurd may.may
next_destroying z s (Marker marker) (act.Finished of) may white agreed h = absurd may.may
next_destroying z s Collector (act.Released of) may white agreed h = released_destroying s.world of may.may.gathered (none_to_begin s.world h may.may.gathered may.may.begun) may.may.next h
next_destroying z s (Lane lane) (act.Released of) may white agreed h = absurd may.may
next_destroying z s (Marker marker) (act.Released of) may white agreed h = absurd may.may
next_destroying z s p _ may white agreed h = h

-- ---- who agreed

none_agreed : (phase : Phase) (rs : List Removal) → IsAgreed None phase rs
none_agreed phase rs = record { gathered = λ n e. absurd cc; begun = λ n e. absurd cc; none_removed = λ n e. absurd cc }

asked_agreed : (s : State) (of : Name) (poll : ℕ) (answer : Bool) → Asks s of poll → Destroying s → IsAgreed (if answer then Some of else None) s.world.phase (polled s.world of poll).removals
asked_agreed s of poll false may h = none_agreed s.world.phase (polled s.world of poll).removals
asked_agreed s of poll true may h = record {
  gathered = λ n e. may.gathered;
  begun = λ n e. let same : of ≡ n = cc in subst (λ (m : Name). is_at (polled s.world of poll) Begun m ≡ true) same (is_at-polled s.world of poll Begun of ∙ asked.1);
  none_removed = λ n e m. is_at-polled s.world of poll Removed m ∙ none_to_begin s.world h may.gathered may.begun m;
}
  where
    asked : Among (round_from s.collector.asked (members (destruction_order s.world))) of × (is_at s.world Begun of ≡ true)
    asked = find_some (is_at s.world Begun) (round_from s.collector.asked (members (destruction_order s.world))) of may.next

pub next_agreed : (z : Sizes) (s : State) (p : Pass) (a : Act) → MayBy z s p a → Destroying s → Agreed s → Agreed (next_by s (next_world s.marks s.world p a) p a)
next_agreed z s Collector (act.Asked of poll answer) may d h = asked_agreed s of poll answer may.may d
next_agreed z s Collector (act.BeginGc begin.Started) may d h = none_agreed Marking s.world.removals
next_agreed z s Collector a may d h = none_agreed (next_world s.marks s.world Collector a).phase (next_world s.marks s.world Collector a).removals
next_agreed z s (Lane lane) (act.BeginGc reply) may d h = absurd may.may
next_agreed z s (Lane lane) (act.CommitGc reply) may d h = absurd may.may
next_agreed z s (Lane lane) (act.Sweep budget reply names) may d h = absurd may.may
next_agreed z s (Lane lane) (act.Begun of) may d h = absurd may.may
next_agreed z s (Lane lane) (act.Asked of poll answer) may d h = absurd may.may
next_agreed z s (Lane lane) (act.Finished of) may d h = absurd may.may
next_agreed z s (Lane lane) (act.Released of) may d h = absurd may.may
next_agreed z s (Lane lane) a may d h = h
next_agreed z s (Marker marker) (act.BeginGc reply) may d h = absurd may.may
next_agreed z s (Marker marker) (act.CommitGc reply) may d h = absurd may.may
next_agreed z s (Marker marker) (act.Sweep budget reply names) may d h = absurd may.may
next_agreed z s (Marker marker) (act.Begun of) may d h = absurd may.may
next_agreed z s (Marker marker) (act.Asked of poll answer) may d h = absurd may.may
next_agreed z s (Marker marker) (act.Finished of) may d h = absurd may.may
next_agreed z s (Marker marker) (act.Released of) may d h = absurd may.may
next_agreed z s (Marker marker) a may d h = h
