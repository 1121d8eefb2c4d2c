-- Taking a unit apart is refused exactly while a collection marks: else some solo call does it.
use Rattle.std.proofs.Common.{◌≡◌, ◌≢◌, ℕ, ◌<◌, zero, suc, refl, sym, subst, ap, ◌∙◌, inl, inr, arith, true, List, [], ◌∷◌, ◌++◌, map, length, length-append, append_assoc, ◌⊎◌}
use Rattle.std.proofs.lemmas.Bool.{or_left}
use Rattle.world_model.specs.Types.{Name, Marking, Lane, Entry}
use Rattle.world_model.specs.Types.act
use Rattle.world_model.specs.Sizes.{Sizes}
use Rattle.world_model.specs.NameLists.{has, is_last, ends_with, but_last}
use Rattle.world_model.specs.World.{unit_of}
use Rattle.world_model.specs.State.{State, Frame}
use Rattle.world_model.specs.Next.{next, run, broken_by}
use Rattle.world_model.specs.LaneSteps.{PartsOn, AreLoose}
use Rattle.world_model.specs.Histories.{May, Legal, LegalFrom, state_of, after}
use Rattle.world_model.specs.Calls.{by}
use Rattle.world_model.specs.Follows.{entry, MayAsk, CanAppend, DissolveAnswers}
use Rattle.world_model.specs.Midway.{IsMidway}
use Rattle.world_model.proofs.ListFacts.{among_left}
use Rattle.world_model.proofs.NameFacts.{same_name_refl, found_unit, has_among, among_has, member_of_one, set_at_same}
use Rattle.world_model.proofs.Joins.{by-append, legal_join}
use Rattle.world_model.proofs.Loosening.{ends_splits, ends_has, ends_own, parted_among, first_part}
use Rattle.world_model.proofs.Units.{units_apart, next_apart}
use Rattle.world_model.proofs.Solo.{solo}
use Rattle.world_model.proofs.Barrier.{barred, own_unit}
use Rattle.world_model.proofs.Dissolving.{leaving, none_loosened}
use Rattle.world_model.proofs.Holding.{held_with_unit_holds}

-- the last of names of which there are two or more
pub last_of : (u : List Name) (k : ℕ) → length u ≡ suc (suc k) → (n : Name) × (ends_with n u ≡ true)
last_of [] k e = absurd (omega arith)
last_of (first ∷ rest) k e = last_in rest k (omega arith)
  where
    last_in : (u : List Name) (k : ℕ) → length u ≡ suc k → (n : Name) × (is_last n u ≡ true)
    last_in [] k e = absurd (omega arith)
    last_in (n ∷ []) k e = (n, same_name_refl n)
    last_in (n ∷ m ∷ names) zero e = absurd (omega arith)
    last_in (n ∷ m ∷ names) (suc k) e = last_in (m ∷ names) k (omega arith)

in_whole : (front loosened whole : List Name) (n : Name) → whole ≡ front ++ loosened → has front n ≡ true → has whole n ≡ true
in_whole front loosened whole n e h = subst (λ (u : List Name). has u n ≡ true) (sym e) (among_has (front ++ loosened) n (among_left front loosened n (has_among front n h)))

-- one more member leaves
module _ (z : Sizes) (s : State) (lane : ℕ) (whole front : List Name) (h : IsMidway z s lane whole front) (n : Name) (ends : ends_with n front ≡ true) where
  member : has front n ≡ true
  member = ends_own n front ends

  unit_is : unit_of s.world n ≡ front
  unit_is = own_unit s.world h.apart front n h.unit member

  in_it : has whole n ≡ true
  in_it = go h.so_far
    where
      go : (((s.frames lane).broken ≡ []) × (whole ≡ front)) ⊎ (((s.frames lane).broken ≡ whole) × (whole ≡ front ++ (s.frames lane).loosened)) → has whole n ≡ true
      go (inl (b, e)) = subst (λ (u : List Name). has u n ≡ true) (sym e) member
      go (inr (b, e)) = in_whole front (s.frames lane).loosened whole n e member

  goes_on : PartsOn (s.frames lane).broken (act.Loose n)
  goes_on = go h.so_far
    where
      any : (b : List Name) → has b n ≡ true → PartsOn b (act.Loose n)
      any [] k = tt
      any (first ∷ rest) k = k

      go : (((s.frames lane).broken ≡ []) × (whole ≡ front)) ⊎ (((s.frames lane).broken ≡ whole) × (whole ≡ front ++ (s.frames lane).loosened)) → PartsOn (s.frames lane).broken (act.Loose n)
      go (inl (b, e)) = subst (λ (x : List Name). PartsOn x (act.Loose n)) (sym b) tt
      go (inr (b, e)) = subst (λ (x : List Name). PartsOn x (act.Loose n)) (sym b) (any whole in_it)

  pub leaves : May z s (entry (Lane lane) (act.Loose n))
  leaves = record {
    in_range = h.in_range;
    frame = record { opened = h.opened; continues = rw h.none_owed tt; parts = goes_on };
    may = record { held = h.held n in_it; own = h.own n member; unmarked = h.unmarked; last = ap (ends_with n) unit_is ∙ ends };
  }

  frame1 : (next s (entry (Lane lane) (act.Loose n))).frames lane ≡ record (s.frames lane) { broken = broken_by s.world (s.frames lane).broken n; loosened = n ∷ (s.frames lane).loosened }
  frame1 = set_at_same s.frames lane _

  pub broken1 : broken_by s.world (s.frames lane).broken n ≡ whole
  broken1 = go h.so_far
    where
      kept : (b : List Name) → has b n ≡ true → broken_by s.world b n ≡ b
      kept [] k = absurd cc
      kept (first ∷ rest) k = refl

      go : (((s.frames lane).broken ≡ []) × (whole ≡ front)) ⊎ (((s.frames lane).broken ≡ whole) × (whole ≡ front ++ (s.frames lane).loosened)) → broken_by s.world (s.frames lane).broken n ≡ whole
      go (inl (b, e)) = ap (λ (x : List Name). broken_by s.world x n) b ∙ unit_is ∙ sym e
      go (inr (b, e)) = ap (λ (x : List Name). broken_by s.world x n) b ∙ kept whole in_it

  whole1 : ((s.frames lane).broken ≡ []) → (s.frames lane).loosened ≡ [] → whole ≡ front → whole ≡ but_last front ++ n ∷ (s.frames lane).loosened
  whole1 b l e = e ∙ ends_splits n front ends ∙ ap (λ (x : List Name). but_last front ++ n ∷ x) (sym l)

  whole2 : whole ≡ front ++ (s.frames lane).loosened → whole ≡ but_last front ++ n ∷ (s.frames lane).loosened
  whole2 e = e ∙ ap (λ (u : List Name). u ++ (s.frames lane).loosened) (ends_splits n front ends) ∙ append_assoc (but_last front) (n ∷ []) (s.frames lane).loosened

  pub midway1 : ((s.frames lane).broken ≡ [] → (s.frames lane).loosened ≡ []) → IsMidway z (next s (entry (Lane lane) (act.Loose n))) lane whole (but_last front)
  midway1 none = record {
    in_range = h.in_range;
    opened = h.opened;
    none_owed = ap (λ (f : Frame). f.owed) frame1 ∙ h.none_owed;
    unmarked = h.unmarked;
    apart = next_apart z s (Lane lane) (act.Loose n) leaves h.apart;
    unit = parted_among n s.world.units front (but_last front) h.unit (first_part n front ends);
    held = λ m k. subst (λ (f : Frame). has f.held m ≡ true) (sym frame1) (h.held m k);
    own = λ m k. h.own m (ends_has n front m ends ∙ or_left _ _ k);
    so_far = inr (ap (λ (f : Frame). f.broken) frame1 ∙ broken1, all h.so_far ∙ ap (λ (f : Frame). but_last front ++ f.loosened) (sym frame1));
  }
    where
      all : (((s.frames lane).broken ≡ []) × (whole ≡ front)) ⊎ (((s.frames lane).broken ≡ whole) × (whole ≡ front ++ (s.frames lane).loosened))
          → whole ≡ but_last front ++ n ∷ (s.frames lane).loosened
      all (inl (b, e)) = whole1 b (none b) e
      all (inr (b, e)) = whole2 e

  -- from then on the unit is known
  pub known1 : ((next s (entry (Lane lane) (act.Loose n))).frames lane).broken ≡ [] → ((next s (entry (Lane lane) (act.Loose n))).frames lane).loosened ≡ []
  known1 e = absurd (let wrong : has [] n ≡ true = subst (λ (u : List Name). has u n ≡ true) (sym broken1 ∙ sym (ap (λ (f : Frame). f.broken) frame1) ∙ e) in_it in cc)

-- what is left when all but one have left
record IsReady (z : Sizes) (s : State) (lane : ℕ) (whole : List Name) (of : List Name) : Type 0 where
  pub legal : LegalFrom z s (leaving lane of)
  pub first : Name
  pub midway : IsMidway z (run s (leaving lane of)) lane whole (first ∷ [])

all_leave : (z : Sizes) (k : ℕ) (s : State) (lane : ℕ) (whole front : List Name) → length front ≡ suc k → ((s.frames lane).broken ≡ [] → (s.frames lane).loosened ≡ []) → IsMidway z s lane whole front
    → (of : List Name) × IsReady z s lane whole of
all_leave z zero s lane whole [] long none h = absurd (omega arith)
all_leave z zero s lane whole (first ∷ []) long none h = ([], record { legal = tt; first = first; midway = h })
all_leave z zero s lane whole (first ∷ n ∷ front) long none h = absurd (omega arith)
all_leave z (suc k) s lane whole front long none h =
    let last = last_of front k long in
    let n = last.0 in
    let split = ap (λ (u : List Name). length u) (ends_splits n front last.1) in
    let parts = length-append (but_last front) (n ∷ []) in
    let rest =
    all_leave z k (next s (entry (Lane lane) (act.Loose n))) lane whole (but_last front) (omega arith) (known1 z s lane whole front h n last.1)
    (midway1 z s lane whole front h n last.1 none) in
    (n ∷ rest.0, record { legal = (leaves z s lane whole front h n last.1, rest.1.legal); first = rest.1.first; midway = rest.1.midway })

-- then it is taken apart
pub ready_closes : (z : Sizes) (s : State) (lane : ℕ) (whole : List Name) (first at : Name) → has whole at ≡ true → at.lane ≡ lane
    → IsMidway z s lane whole (first ∷ []) → May z s (entry (Lane lane) (act.Dissolve at (length whole)))
ready_closes z s lane whole first at member own h = record {
  in_range = h.in_range;
  frame = record { opened = h.opened; continues = rw h.none_owed tt; parts = on (s.frames lane).broken };
  may = record { held = h.held at member; own = own; unmarked = h.unmarked; loose = loose h.so_far };
}
  where
    on : (b : List Name) → PartsOn b (act.Dissolve at (length whole))
    on [] = tt
    on (n ∷ rest) = tt

    loose : (((s.frames lane).broken ≡ []) × (whole ≡ first ∷ []))
        ⊎ (((s.frames lane).broken ≡ whole) × (whole ≡ (first ∷ []) ++ (s.frames lane).loosened))
        → AreLoose s.world at (s.frames lane).broken (s.frames lane).loosened (length whole)
    loose (inl (b, e)) =
        let same : at ≡ first = member_of_one at first (ap (λ (u : List Name). has u at) (sym e) ∙ member) in
        let unit : unit_of s.world at ≡ at ∷ [] = own_unit s.world h.apart (first ∷ []) at h.unit (ap (λ (u : List Name). has u at) (sym e) ∙ member) ∙ ap (λ (n : Name). n ∷ []) (sym same) in
        subst (λ (x : List Name). AreLoose s.world at x (s.frames lane).loosened (length whole)) (sym b) (unit, ap (λ (u : List Name). length u) e)
    loose (inr (b, e)) =
        subst (λ (x : List Name). AreLoose s.world at x (s.frames lane).loosened (length whole)) (sym (b ∙ e))
        (ap (λ (u : List Name). has u at) (sym e) ∙ member, refl, ap (λ (u : List Name). length u) e)

-- ---- the answers

-- before any member has left
pub starts_midway : (z : Sizes) (history : List Entry) (lane : ℕ) (at : Name) → Legal z history → lane < z.lanes → MayAsk (state_of history) lane at → (after history).phase ≢ Marking
    → IsMidway z (state_of history) lane (unit_of (after history) at) (unit_of (after history) at)
starts_midway z history lane at legal lane_in ask unmarked =
    let bars = barred z history legal in
    let apart = units_apart z history legal in
    let there = found_unit (after history).units at (bars.holding.lives lane at ask.held) in
    record {
      in_range = lane_in;
      opened = bars.holding.opened lane at ask.held;
      none_owed = ask.none_owed;
      unmarked = unmarked;
      apart = apart;
      unit = there.0;
      held = λ n k. held_with_unit_holds z history legal lane at n ask.held k;
      own = λ n k. apart.one_lane (unit_of (after history) at) n at there.0 k there.1 ∙ ask.own;
      so_far = inl (ask.none_broken, refl);
    }

dissolves : (z : Sizes) (history : List Entry) (lane : ℕ) (at : Name) → Legal z history → lane < z.lanes → MayAsk (state_of history) lane at → (after history).phase ≢ Marking
    → CanAppend z history (Lane lane) (act.Dissolve at (length (unit_of (after history) at)))
dissolves z history lane at legal lane_in ask unmarked = record {
  new = history ++ by (Lane lane) (map act.Loose ready.0 ++ act.Dissolve at (length unit) ∷ []);
  call =
      solo z history (Lane lane) (act.Dissolve at (length unit)) (map act.Loose ready.0 ++ act.Dissolve at (length unit) ∷ [])
      (record { of = ready.0; are = refl }, ask.none_broken) legal all_legal;
}
  where
    s : State
    s = state_of history

    unit : List Name
    unit = unit_of (after history) at

    member : has unit at ≡ true
    member = (found_unit s.world.units at ((barred z history legal).holding.lives lane at ask.held)).1

    some : (u : List Name) → has u at ≡ true → (k : ℕ) × (length u ≡ suc k)
    some [] h = absurd cc
    some (n ∷ u) h = (length u, refl)

    ready : (of : List Name) × IsReady z s lane unit of
    ready = let size = some unit member in all_leave z size.0 s lane unit unit size.1 none_loose (starts_midway z history lane at legal lane_in ask unmarked)
      where
        none_loose : (s.frames lane).broken ≡ [] → (s.frames lane).loosened ≡ []
        none_loose e = none_loosened z history legal lane e

    all_legal : LegalFrom z s (by (Lane lane) (map act.Loose ready.0 ++ act.Dissolve at (length unit) ∷ []))
    all_legal = subst (LegalFrom z s) (sym (by-append (Lane lane) (map act.Loose ready.0) (act.Dissolve at (length unit) ∷ [])))
        (legal_join z s (leaving lane ready.0) (entry (Lane lane) (act.Dissolve at (length unit)) ∷ []) ready.1.legal
        (ready_closes z (run s (leaving lane ready.0)) lane unit ready.1.first at member ask.own ready.1.midway, tt))

pub dissolve_answers_holds : DissolveAnswers
dissolve_answers_holds z history lane at legal lane_in ask = record {
  apart = dissolves z history lane at legal lane_in ask;
  refused = λ marking. record {
    new = history ++ by (Lane lane) (act.NoDissolve at ∷ []);
    call = solo z history (Lane lane) (act.NoDissolve at) (act.NoDissolve at ∷ []) (refl, tt) legal (
      record {
        in_range = lane_in;
        frame = record { opened = (barred z history legal).holding.opened lane at ask.held; continues = rw ask.none_owed tt; parts = rw ask.none_broken tt };
        may = record { held = ask.held; own = ask.own; marking = marking };
      },
      tt,
    );
  };
}
