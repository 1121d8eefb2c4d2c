-- In every legal history a unit that a lane has taken apart is one no more: each of its members stands alone.
use Rattle.std.proofs.Common.{◌≡◌, ◌≢◌, ℕ, refl, sym, subst, ap, ◌∙◌, inl, inr, arith, Bool, true, false, ◌||◌, ◌==◌, List, [], ◌∷◌, ◌++◌, map, length, length-append, append_assoc, ◌⊎◌}
use Rattle.std.proofs.lemmas.Bool.{both_ways, false_from_ne_true, or_left, eq-eqb}
use Rattle.world_model.specs.Types.{Name, Pass, Lane, Marker, Collector, Act, Entry}
use Rattle.world_model.specs.Types.act
use Rattle.world_model.specs.Types.begin
use Rattle.world_model.specs.Types.commit
use Rattle.world_model.specs.Sizes.{Sizes}
use Rattle.world_model.specs.NameLists.{same_name, has, ends_with, but_last}
use Rattle.world_model.specs.World.{World, unit_of, in_world, is_open}
use Rattle.world_model.specs.Reach.{graph, IsUnit, IsReached}
use Rattle.world_model.specs.State.{State, Frame, beginning}
use Rattle.world_model.specs.Next.{next_world, next_by, next, run, next_frame, broken_by, with_loose}
use Rattle.world_model.specs.LaneSteps.{PartsOn, AreLoose}
use Rattle.world_model.specs.Histories.{MayBy, May, Legal, LegalFrom, state_of, after}
use Rattle.world_model.specs.Calls.{by}
use Rattle.world_model.specs.Follows.{entry, IsTakenApart, TakenApart, DissolvesUnit, StaysAlone, CollectedSingly, NoneLoosens, loosens}
use Rattle.world_model.specs.Midway.{AreApart}
use Rattle.world_model.proofs.ListFacts.{Among, among_append, among_left, among_contains, contains_among}
use Rattle.world_model.proofs.NameFacts.{same_name_refl, member_of_one, found_unit, has_among, among_has, set_at_same}
use Rattle.world_model.proofs.Joins.{histories_join, run-append, by-append, legal_split, legal_join}
use Rattle.world_model.proofs.Reaches.{reached_unit}
use Rattle.world_model.proofs.Loosening.{ends_splits, ends_some, ends_own, parted_among, first_part, last_part, whole_part}
use Rattle.world_model.proofs.Units.{units_apart}
use Rattle.world_model.proofs.Quiet.{not_open, still_open, other_lane, no_lane, no_collector}
use Rattle.world_model.proofs.Solo.{state_after, legal_call}
use Rattle.world_model.proofs.Collections.{collect_is_exact_holds}
use Rattle.world_model.proofs.Inductions.{by_states}
use Rattle.world_model.proofs.Barrier.{own_unit, unit_lives, member_lives, set_at_other}
use Rattle.world_model.proofs.Frames.{unit_stays_holds}

-- ---- a lane that takes a unit apart

-- what is left of the unit is a unit, and each member that has left it is one
pub record IsParting (units : List (List Name)) (lane : ℕ) (broken loosened : List Name) : Type 0 where
  pub front : List Name
  pub whole : broken ≡ front ++ loosened
  pub some : front ≢ []
  pub left : Among units front
  pub alone : (n : Name) → Among loosened n → Among units (n ∷ [])
  pub own : (n : Name) → has broken n ≡ true → n.lane ≡ lane

-- a lane takes no unit apart, or is in the midst of that in its open frame
abbrev pub Parting : World → ℕ → Frame → Type 0
Parting w lane f = ((f.broken ≡ []) × (f.loosened ≡ [])) ⊎ (IsParting w.units lane f.broken f.loosened × (is_open w (Lane lane) ≡ true))

-- nothing that ends a unit of one leaves it
one_stays : (of n : Name) → ends_with of (n ∷ []) ≡ false
one_stays of n = refl

-- units of which none is parted stay as they are
parting_stays : (units units' : List (List Name)) (lane : ℕ) (broken loosened : List Name) → ((u : List Name) (n : Name) → Among units u → has u n ≡ true → n.lane ≡ lane → Among units' u)
    → IsParting units lane broken loosened → IsParting units' lane broken loosened
parting_stays units units' lane broken loosened stays h = record {
  front = h.front;
  whole = h.whole;
  some = h.some;
  left = front_stays h.front h.left h.some (λ n k. h.own n (ap (λ (ns : List Name). has ns n) h.whole ∙ in_front h.front n k));
  alone = λ n k. stays (n ∷ []) n (h.alone n k) (or_left _ _ (same_name_refl n)) (h.own n (ap (λ (ns : List Name). has ns n) h.whole ∙ behind h.front n k));
  own = h.own;
}
  where
    in_front : (front : List Name) (n : Name) → has front n ≡ true → has (front ++ loosened) n ≡ true
    in_front front n k = among_has (front ++ loosened) n (among_left front loosened n (has_among front n k))

    behind : (front : List Name) (n : Name) → Among loosened n → has (front ++ loosened) n ≡ true
    behind [] n k = among_has loosened n k
    behind (m ∷ front) n k = over (same_name n m) (behind front n k)
      where
        over : (b : Bool) → has (front ++ loosened) n ≡ true → (b || has (front ++ loosened) n) ≡ true
        over true e = refl
        over false e = e

    front_stays : (front : List Name) → Among units front → front ≢ [] → ((n : Name) → has front n ≡ true → n.lane ≡ lane) → Among units' front
    front_stays [] k some own = absurd (some refl)
    front_stays (m ∷ front) k some own = let here : has (m ∷ front) m ≡ true = or_left _ _ (same_name_refl m) in stays (m ∷ front) m k here (own m here)

-- the units of a lane stay while another lane acts
others_stay : (z : Sizes) (s : State) (l : ℕ) (a : Act) (lane : ℕ) → (lane == l) ≡ false → MayBy z s (Lane l) a → AreApart s.world.kinds s.world.units
    → (u : List Name) (n : Name) → Among s.world.units u → has u n ≡ true → n.lane ≡ lane
    → Among (next_world s.marks s.world (Lane l) a).units u
others_stay z s l (act.Make kinds first) lane other may apart u n k h own = among_left s.world.units _ u k
others_stay z s l (act.Loose of) lane other may apart u n k h own =
    parted_among of s.world.units u u k (whole_part of u (false_from_ne_true _ (λ ends.
    both_ways (lane == l) other (eq-eqb lane l (sym own ∙ sym (apart.one_lane u of n k (ends_own of u ends) h) ∙ may.may.own)))))
others_stay z s l (act.BeginGc reply) lane other may apart u n k h own = absurd may.may
others_stay z s l (act.CommitGc reply) lane other may apart u n k h own = absurd may.may
others_stay z s l _ lane other may apart u n k h own = k

-- the first member leaves
first_leaves : (s : State) (lane : ℕ) (of : Name) → AreApart s.world.kinds s.world.units → of.lane ≡ lane → ends_with of (unit_of s.world of) ≡ true
    → IsParting (with_loose s.world of).units lane (unit_of s.world of) (of ∷ [])
first_leaves s lane of apart own ends = record {
  front = but_last unit;
  whole = ends_splits of unit ends;
  some = ends_some of unit ends;
  left = parted_among of s.world.units unit (but_last unit) there (first_part of unit ends);
  alone = λ n k. alone n k;
  own = λ n k. sym (apart.one_lane unit of n there (ends_own of unit ends) k) ∙ own;
}
  where
    unit : List Name
    unit = unit_of s.world of

    there : Among s.world.units unit
    there = (found_unit s.world.units of (unit_lives s.world of of (ends_own of unit ends))).0

    alone : (n : Name) → (of ≡ n) ⊎ ⊥ → Among (with_loose s.world of).units (n ∷ [])
    alone n (inl e) = subst (λ (m : Name). Among (with_loose s.world of).units (m ∷ [])) e (parted_among of s.world.units unit (of ∷ []) there (last_part of unit ends))
    alone n (inr none) = absurd none

-- one more member leaves
next_leaves : (s : State) (lane : ℕ) (of : Name) (broken loosened : List Name) → AreApart s.world.kinds s.world.units → has broken of ≡ true → ends_with of (unit_of s.world of) ≡ true
    → IsParting s.world.units lane broken loosened → IsParting (with_loose s.world of).units lane broken (of ∷ loosened)
next_leaves s lane of broken loosened apart member ends h = record {
  front = but_last h.front;
  whole = h.whole ∙ ap (λ (ns : List Name). ns ++ loosened) (ends_splits of h.front in_front) ∙ append_assoc (but_last h.front) (of ∷ []) loosened;
  some = ends_some of h.front in_front;
  left = parted_among of s.world.units h.front (but_last h.front) h.left (first_part of h.front in_front);
  alone = λ n k. alone n k;
  own = h.own;
}
  where
    -- the member is of what is left of the unit
    which : Among h.front of ⊎ Among loosened of → ends_with of h.front ≡ true
    which (inl k) = subst (λ (u : List Name). ends_with of u ≡ true) (own_unit s.world apart h.front of h.left (among_has h.front of k)) ends
    which (inr k) =
        let single : unit_of s.world of ≡ of ∷ [] = own_unit s.world apart (of ∷ []) of (h.alone of k) (or_left _ _ (same_name_refl of)) in
        absurd (let wrong : false ≡ true = subst (λ (u : List Name). ends_with of u ≡ true) single ends in cc)

    in_front : ends_with of h.front ≡ true
    in_front = which (among_append h.front loosened of (has_among (h.front ++ loosened) of (ap (λ (ns : List Name). has ns of) (sym h.whole) ∙ member)))

    alone : (n : Name) → (of ≡ n) ⊎ Among loosened n → Among (with_loose s.world of).units (n ∷ [])
    alone n (inl e) = subst (λ (m : Name). Among (with_loose s.world of).units (m ∷ [])) e (parted_among of s.world.units h.front (of ∷ []) h.left (last_part of h.front in_front))
    alone n (inr k) = parted_among of s.world.units (n ∷ []) (n ∷ []) (h.alone n k) (whole_part of (n ∷ []) (one_stays of n))

own_parting : (z : Sizes) (s : State) (lane : ℕ) (a : Act) → MayBy z s (Lane lane) a → AreApart s.world.kinds s.world.units → Parting s.world lane (s.frames lane)
    → Parting (next_world s.marks s.world (Lane lane) a) lane (next_frame lane s.world (next_world s.marks s.world (Lane lane) a) (s.frames lane) a)
own_parting z s lane (act.Kept of) may apart h = h
own_parting z s lane (act.Loose of) may apart h = go (s.frames lane).broken (s.frames lane).loosened refl h may.frame.parts
  where
    w : World
    w = with_loose s.world of

    go : (broken loosened : List Name) → (s.frames lane).loosened ≡ loosened
        → ((broken ≡ []) × (loosened ≡ [])) ⊎ (IsParting s.world.units lane broken loosened × (is_open s.world (Lane lane) ≡ true))
        → PartsOn broken (act.Loose of)
        → ((broken_by s.world broken of ≡ []) × (of ∷ (s.frames lane).loosened ≡ []))
        ⊎ (IsParting w.units lane (broken_by s.world broken of) (of ∷ (s.frames lane).loosened) × (is_open s.world (Lane lane) ≡ true))
    go [] loosened same (inl none) on =
        inr (
          subst (λ (ns : List Name). IsParting w.units lane (unit_of s.world of) (of ∷ ns)) (sym (same ∙ none.1))
              (first_leaves s lane of apart may.may.own may.may.last),
          may.frame.opened,
        )
    go [] loosened same (inr h) on = absurd (h.0.some (no_front h.0.front (sym h.0.whole)))
      where
        no_front : (front : List Name) → front ++ loosened ≡ [] → front ≡ []
        no_front [] e = refl
        no_front (n ∷ front) e = absurd cc
    go (first ∷ rest) loosened same (inl none) on = absurd (let wrong = none.0 in cc)
    go (first ∷ rest) loosened same (inr h) on =
        inr (
          subst (λ (ns : List Name). IsParting w.units lane (first ∷ rest) (of ∷ ns)) (sym same)
              (next_leaves s lane of (first ∷ rest) loosened apart on may.may.last h.0),
          may.frame.opened,
        )
own_parting z s lane _ may apart h = inl (refl, refl)

next_parting : (z : Sizes) (s : State) (e : Entry) → May z s e → AreApart s.world.kinds s.world.units
    → ((lane : ℕ) → Parting s.world lane (s.frames lane)) → (lane : ℕ) → Parting (next s e).world lane ((next s e).frames lane)
next_parting z s e may apart h = go e.pass e.act may
  where
    go : (p : Pass) (a : Act) → MayBy z s p a → (lane : ℕ) → Parting (next_world s.marks s.world p a) lane ((next_by s (next_world s.marks s.world p a) p a).frames lane)
    go (Lane l) a may =
        set_at_other s.frames l (next_frame l s.world (next_world s.marks s.world (Lane l) a) (s.frames l) a)
        (Parting (next_world s.marks s.world (Lane l) a)) (own_parting z s l a may apart (h l)) (λ i other. one i other (h i))
      where
        one : (i : ℕ) → (i == l) ≡ false → Parting s.world i (s.frames i) → Parting (next_world s.marks s.world (Lane l) a) i (s.frames i)
        one i other (inl none) = inl none
        one i other (inr (parting, opened)) =
            inr (
              parting_stays s.world.units _ i (s.frames i).broken (s.frames i).loosened (others_stay z s l a i other may apart) parting,
              still_open s (Lane l) a i (λ x. other_lane i l x other) opened,
            )
    go (Marker m) a may = λ lane. one lane (h lane)
      where
        same : (a : Act) → MayBy z s (Marker m) a → (u : List Name) (n : Name) → Among s.world.units u → has u n ≡ true → n.lane ≡ n.lane → Among (next_world s.marks s.world (Marker m) a).units u
        same (act.Make kinds first) may u n k h own = absurd may.may
        same (act.Loose of) may u n k h own = absurd may.may
        same (act.BeginGc reply) may u n k h own = absurd may.may
        same (act.CommitGc reply) may u n k h own = absurd may.may
        same _ may u n k h own = k

        one : (lane : ℕ) → Parting s.world lane (s.frames lane) → Parting (next_world s.marks s.world (Marker m) a) lane (s.frames lane)
        one lane (inl none) = inl none
        one lane (inr (parting, opened)) =
            inr (
              parting_stays s.world.units _ lane (s.frames lane).broken (s.frames lane).loosened (λ u n k h own. same a may u n k h refl) parting,
              still_open s (Marker m) a lane (no_lane lane m) opened,
            )
    go Collector a may = λ lane. one lane (h lane)
      where
        same : (a : Act) → MayBy z s Collector a → (lane : ℕ) → is_open s.world (Lane lane) ≡ true → (u : List Name) → Among s.world.units u → Among (next_world s.marks s.world Collector a).units u
        same (act.Make kinds first) may lane opened u k = absurd may.may
        same (act.Loose of) may lane opened u k = absurd may.may
        same (act.CommitGc commit.Done) may lane opened u k = absurd (not_open s.world (Lane lane) opened may.may.closed)
        same (act.BeginGc begin.Started) may lane opened u k = k
        same _ may lane opened u k = k

        one : (lane : ℕ) → Parting s.world lane (s.frames lane) → Parting (next_world s.marks s.world Collector a) lane (s.frames lane)
        one lane (inl none) = inl none
        one lane (inr (parting, opened)) =
            inr (
              parting_stays s.world.units _ lane (s.frames lane).broken (s.frames lane).loosened (λ u n k h own. same a may lane opened u k) parting,
              still_open s Collector a lane (no_collector lane) opened,
            )

pub parting : (z : Sizes) (history : List Entry) → Legal z history → (lane : ℕ) → Parting (after history) lane ((state_of history).frames lane)
parting z = by_states z (λ s. (lane : ℕ) → Parting s.world lane (s.frames lane)) (λ lane. inl (refl, refl)) (λ xs e legal may h. next_parting z (state_of xs) e may (units_apart z xs legal) h)

-- a lane that takes no unit apart has taken nothing out of one
pub none_loosened : (z : Sizes) (history : List Entry) → Legal z history → (lane : ℕ) → ((state_of history).frames lane).broken ≡ [] → ((state_of history).frames lane).loosened ≡ []
none_loosened z history legal lane e = go (parting z history legal lane)
  where
    no_front : (front rest : List Name) → front ++ rest ≡ [] → front ≡ []
    no_front [] rest h = refl
    no_front (n ∷ front) rest h = absurd cc

    go : Parting (after history) lane ((state_of history).frames lane) → ((state_of history).frames lane).loosened ≡ []
    go (inl none) = none.1
    go (inr (p, opened)) = absurd (p.some (no_front p.front ((state_of history).frames lane).loosened (sym p.whole ∙ e)))

-- ---- the answer

-- where all members but one have left, the one is left
one_left : (front rest : List Name) (first : Name) → front ≢ [] → front ++ rest ≡ first ∷ rest → front ≡ first ∷ []
one_left [] rest first some e = absurd (some refl)
one_left (n ∷ []) rest first some e = cc
one_left (n ∷ m ∷ front) rest first some e =
    let long : length ((n ∷ m ∷ front) ++ rest) ≡ length (first ∷ rest) = ap (λ (ns : List Name). length ns) e in
    let all = length-append front rest in
    absurd (omega arith)

-- each member of the unit that was taken apart is one by itself
broken_alone : (s : State) (lane : ℕ) (at : Name) (count : ℕ) (broken loosened : List Name)
    → ((broken ≡ []) × (loosened ≡ [])) ⊎ (IsParting s.world.units lane broken loosened × (is_open s.world (Lane lane) ≡ true))
    → AreLoose s.world at broken loosened count → (n : Name) → has broken n ≡ true → IsUnit (graph s.world) (n ∷ [])
broken_alone s lane at count [] loosened h loose n k = absurd cc
broken_alone s lane at count (first ∷ rest) loosened (inl none) loose n k = absurd (let wrong = none.0 in cc)
broken_alone s lane at count (first ∷ rest) loosened (inr (p, opened)) loose n k =
    let all : first ∷ rest ≡ p.front ++ rest = p.whole ∙ ap (λ (ns : List Name). p.front ++ ns) loose.1 in
    let front : p.front ≡ first ∷ [] = one_left p.front rest first p.some (sym all) in
    among_contains _ _
    (alone (subst (λ (u : List Name). Among s.world.units u) front p.left)
    (λ m i. p.alone m (subst (λ (ns : List Name). Among ns m) (sym loose.1) i)) n (has_among (first ∷ rest) n k))
  where
    alone : Among s.world.units (first ∷ []) → ((m : Name) → Among rest m → Among s.world.units (m ∷ [])) → (n : Name) → (first ≡ n) ⊎ Among rest n → Among s.world.units (n ∷ [])
    alone here others n (inl e) = subst (λ (m : Name). Among s.world.units (m ∷ [])) e here
    alone here others n (inr k) = others n k

-- an object that is the whole of its unit is one by itself
whole_alone : (w : World) (at : Name) → unit_of w at ≡ at ∷ [] → IsUnit (graph w) (at ∷ [])
whole_alone w at e =
    among_contains _ _
    (subst (λ (u : List Name). Among w.units u) e
    (found_unit w.units at (unit_lives w at at (ap (λ (u : List Name). has u at) e ∙ or_left _ _ (same_name_refl at)))).0)

taken_apart : (s : State) (lane : ℕ) (at : Name) (count : ℕ) → Parting s.world lane (s.frames lane)
    → AreLoose s.world at (s.frames lane).broken (s.frames lane).loosened count → IsTakenApart s.world at count
taken_apart s lane at count h loose = go (s.frames lane).broken (s.frames lane).loosened h loose
  where
    go : (broken loosened : List Name)
        → ((broken ≡ []) × (loosened ≡ [])) ⊎ (IsParting s.world.units lane broken loosened × (is_open s.world (Lane lane) ≡ true))
        → AreLoose s.world at broken loosened count → IsTakenApart s.world at count
    go [] loosened h loose = record {
      unit = at ∷ [];
      member = or_left _ _ (same_name_refl at);
      count_is = loose.1;
      alone = λ n k. subst (λ (m : Name). IsUnit (graph s.world) (m ∷ [])) (sym (member_of_one n at k)) (whole_alone s.world at loose.0);
    }
    go (first ∷ rest) loosened h loose = record {
      unit = first ∷ rest;
      member = loose.0;
      count_is = loose.2;
      alone = broken_alone s lane at count (first ∷ rest) loosened h loose;
    }

pub taken_apart_holds : TakenApart
taken_apart_holds z history lane at count legal =
    let parts = (histories_join.one_more z history (entry (Lane lane) (act.Dissolve at count))).0 legal in
    taken_apart (state_of history) lane at count (parting z history parts.0 lane) parts.1.may.loose

-- ---- a solo call

-- notes of members that leave
abbrev pub leaving : ℕ → List Name → List Entry
leaving lane of = by (Lane lane) (map act.Loose of)

-- the unit that is taken apart stays the same
broken_stays : (s : State) (lane : ℕ) (of : List Name) (first : Name) (rest : List Name) → (s.frames lane).broken ≡ first ∷ rest → ((run s (leaving lane of)).frames lane).broken ≡ first ∷ rest
broken_stays s lane [] first rest e = e
broken_stays s lane (n ∷ of) first rest e =
    broken_stays (next s (entry (Lane lane) (act.Loose n))) lane of first rest (ap (λ (f : Frame). f.broken) (set_at_same s.frames lane _) ∙ ap (λ (b : List Name). broken_by s.world b n) e)

-- and all that leave are of it
leave_it : (z : Sizes) (s : State) (lane : ℕ) (of : List Name) (first : Name) (rest : List Name) → (s.frames lane).broken ≡ first ∷ rest
    → LegalFrom z s (leaving lane of) → (n : Name) → Among of n → has (first ∷ rest) n ≡ true
leave_it z s lane [] first rest e legal n k = absurd k
leave_it z s lane (m ∷ of) first rest e legal n (inl same) = subst (λ (x : Name). has (first ∷ rest) x ≡ true) same (subst (λ (b : List Name). PartsOn b (act.Loose m)) e legal.0.frame.parts)
leave_it z s lane (m ∷ of) first rest e legal n (inr k) =
    leave_it z (next s (entry (Lane lane) (act.Loose m))) lane of first rest (ap (λ (f : Frame). f.broken) (set_at_same s.frames lane _) ∙ ap (λ (b : List Name). broken_by s.world b m) e) legal.1 n k

-- a unit that none of them ends stays
unit_left : (s : State) (lane : ℕ) (of : List Name) (u : List Name) → ((n : Name) → Among of n → ends_with n u ≡ false) → Among s.world.units u → Among (run s (leaving lane of)).world.units u
unit_left s lane [] u none k = k
unit_left s lane (n ∷ of) u none k =
    unit_left (next s (entry (Lane lane) (act.Loose n))) lane of u (λ m i. none m (inr i)) (parted_among n s.world.units u u k (whole_part n u (none n (inl refl))))

-- what a solo call takes apart is the unit in which the object stood
module _ (z : Sizes) (s : State) (lane : ℕ) (at : Name) (count : ℕ) (apart : AreApart s.world.kinds s.world.units) (whole : (s.frames lane).broken ≡ []) where
  -- so many members; each is alone after the notes, and the other units stay
  abbrev Parted : State → Type 0
  Parted t =
      (count ≡ length (unit_of s.world at)) × ((n : Name) → has (unit_of s.world at) n ≡ true → IsUnit (graph t.world) (n ∷ []))
      × ((u : List Name) → Among s.world.units u → has u at ≡ false → Among t.world.units u)

  unit_is : (of : List Name) → LegalFrom z s (leaving lane of)
      → AreLoose (run s (leaving lane of)).world at ((run s (leaving lane of)).frames lane).broken ((run s (leaving lane of)).frames lane).loosened
      count
      → ((n : Name) → has ((run s (leaving lane of)).frames lane).broken n ≡ true → IsUnit (graph (run s (leaving lane of)).world) (n ∷ [])) → Parted (run s (leaving lane of))
  unit_is [] legal loose alone =
      let here : (unit_of s.world at ≡ at ∷ []) × (count ≡ 1) = subst (λ (b : List Name). AreLoose s.world at b (s.frames lane).loosened count) whole loose in (
        here.1 ∙ ap (λ (u : List Name). length u) (sym here.0),
        λ n k. subst (λ (m : Name). IsUnit (graph s.world) (m ∷ [])) (sym (member_of_one n at (ap (λ (u : List Name). has u n) (sym here.0) ∙ k))) (whole_alone s.world at here.0),
        λ u k out. k,
      )
  unit_is (first ∷ of) legal loose alone = go (unit_of s.world first) refl legal.0.may.last
    where
      s1 : State
      s1 = next s (entry (Lane lane) (act.Loose first))

      broken1 : (s1.frames lane).broken ≡ unit_of s.world first
      broken1 = ap (λ (f : Frame). f.broken) (set_at_same s.frames lane _) ∙ ap (λ (b : List Name). broken_by s.world b first) whole

      go : (u : List Name) → unit_of s.world first ≡ u → ends_with first u ≡ true → Parted (run s1 (leaving lane of))
      go [] e ends = absurd cc
      go (m ∷ rest) e ends =
          let stays = broken_stays s1 lane of m rest (broken1 ∙ e) in
          let loose_is : AreLoose (run s1 (leaving lane of)).world at (m ∷ rest) ((run s1 (leaving lane of)).frames lane).loosened count =
          subst (λ (b : List Name). AreLoose (run s1 (leaving lane of)).world at b ((run s1 (leaving lane of)).frames lane).loosened count) stays loose in
          let there : Among s.world.units (m ∷ rest) =
          subst (λ (u : List Name). Among s.world.units u) e
          (found_unit s.world.units first
          (unit_lives s.world first first (ap (λ (u : List Name). has u first) e ∙ ends_own first (m ∷ rest) ends))).0 in
          let unit : unit_of s.world at ≡ m ∷ rest = own_unit s.world apart (m ∷ rest) at there loose_is.0 in (
            loose_is.2 ∙ ap (λ (u : List Name). length u) (sym unit),
            λ n k. alone n (ap (λ (u : List Name). has u n) (stays ∙ sym unit) ∙ k),
            λ v k out. unit_left s lane (first ∷ of) v (λ n i. false_from_ne_true _ (λ ends_v.
                let same : v ≡ m ∷ rest = apart.apart v (m ∷ rest) n k there (ends_own n v ends_v) (member n i) in
                both_ways (has v at) out (ap (λ (u : List Name). has u at) same ∙ loose_is.0))) k,
          )
        where
          member : (n : Name) → (first ≡ n) ⊎ Among of n → has (m ∷ rest) n ≡ true
          member n (inl same) = subst (λ (x : Name). has (m ∷ rest) x ≡ true) same (ends_own first (m ∷ rest) ends)
          member n (inr i) = leave_it z s1 lane of m rest (broken1 ∙ e) legal.1 n i

pub dissolves_unit_holds : DissolvesUnit
dissolves_unit_holds z old new lane at count h =
    let s = state_of old in
    let last : Entry = entry (Lane lane) (act.Dissolve at count) in
    let entries : by (Lane lane) h.acts ≡ leaving lane h.call.0.of ++ last ∷ [] = ap (by (Lane lane)) h.call.0.are ∙ by-append (Lane lane) (map act.Loose h.call.0.of) (act.Dissolve at count ∷ []) in
    let call : LegalFrom z s (leaving lane h.call.0.of ++ last ∷ []) = subst (LegalFrom z s) entries (legal_call z old new (Lane lane) (act.Dissolve at count) h) in
    let pieces = legal_split z s (leaving lane h.call.0.of) (last ∷ []) call in
    let start : Legal z old = (legal_split z beginning old (by (Lane lane) h.acts) (subst (Legal z) h.grown h.legal)).0 in
    let middle : Legal z (old ++ leaving lane h.call.0.of) = legal_join z beginning old (leaving lane h.call.0.of) start pieces.0 in
    let joined : state_of (old ++ leaving lane h.call.0.of) ≡ run s (leaving lane h.call.0.of) = run-append beginning old (leaving lane h.call.0.of) in
    let own : Parting (run s (leaving lane h.call.0.of)).world lane ((run s (leaving lane h.call.0.of)).frames lane) =
    subst (λ (t : State). Parting t.world lane (t.frames lane)) joined (parting z (old ++ leaving lane h.call.0.of) middle lane) in
    let alone =
    broken_alone (run s (leaving lane h.call.0.of)) lane at count ((run s (leaving lane h.call.0.of)).frames lane).broken
    ((run s (leaving lane h.call.0.of)).frames lane).loosened own pieces.1.0.may.loose in
    let parted = unit_is z s lane at count (units_apart z old start) h.call.1 h.call.0.of pieces.0 pieces.1.0.may.loose alone in
    let left : state_of new ≡ next (run s (leaving lane h.call.0.of)) last =
    state_after z old new (Lane lane) (act.Dissolve at count) h ∙ ap (run s) entries ∙ run-append s (leaving lane h.call.0.of) (last ∷ []) in
    let world : after new ≡ (run s (leaving lane h.call.0.of)).world = ap (λ (t : State). t.world) left in
    record {
      count_is = parted.0;
      alone = λ n k.
          let unit : IsUnit (graph (after new)) (n ∷ []) = subst (λ (w : World). IsUnit (graph w) (n ∷ [])) (sym world) (parted.1 n k) in
          (own_unit (after new) (units_apart z new h.legal) (n ∷ []) n (contains_among _ _ unit) (or_left _ _ (same_name_refl n)), unit);
      others = λ u k out. subst (λ (w : World). IsUnit (graph w) u) (sym world) (among_contains _ u (parted.2 u (contains_among _ u k) out));
    }

-- ---- alone for ever

none_ends : (n : Name) (entries : List Entry) → NoneLoosens (n ∷ []) entries
none_ends n [] = tt
none_ends n (e ∷ entries) = (one e.act, none_ends n entries)
  where
    one : (a : Act) → loosens a (n ∷ []) ≡ false
    one (act.Loose of) = refl
    one _ = refl

pub stays_alone_holds : StaysAlone
stays_alone_holds z before more legal n alone lives =
    let lived : in_world (after before) n ≡ true = unit_lives (after before) n n (ap (λ (u : List Name). has u n) alone ∙ or_left _ _ (same_name_refl n)) in
    unit_stays_holds z before more legal n lived lives (subst (λ (u : List Name). NoneLoosens u more) (sym alone) (none_ends n more)) ∙ alone

pub collected_singly_holds : CollectedSingly
collected_singly_holds z old mid more new lane at count budget h collects n k lives =
    let start : Legal z (mid ++ more) =
    (legal_split z beginning (mid ++ more) (by Collector collects.begins)
    (legal_split z beginning ((mid ++ more) ++ by Collector collects.begins) _ (subst (Legal z) collects.grown collects.legal)).0).0 in
    let alone : unit_of (after (mid ++ more)) n ≡ n ∷ [] = stays_alone_holds z mid more start n ((dissolves_unit_holds z old mid lane at count h).alone n k).0 lives in
    let own : has (n ∷ []) n ≡ true = or_left _ _ (same_name_refl n) in
    let exact = collect_is_exact_holds z (mid ++ more) new budget collects in (
      λ now.
          let unit = found_unit (after new).units n now in
          let reached = (exact (unit_of (after new) n)).0 (among_contains _ _ unit.0) in
          let same : n ∷ [] ≡ unit_of (after new) n =
          sym alone
          ∙ own_unit (after (mid ++ more)) (units_apart z (mid ++ more) start) (unit_of (after new) n) n
          (contains_among _ _ (reached_unit (graph (after (mid ++ more))) (unit_of (after new) n) reached)) unit.1 in
          subst (λ (u : List Name). IsReached (graph (after (mid ++ more))) u) (sym same) reached,
      λ reached. member_lives (after new) (n ∷ []) n (contains_among _ _ ((exact (n ∷ [])).1 reached)) own,
    )
