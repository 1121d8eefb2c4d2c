-- What an entry gives to a lane, the lane then holds.
use Rattle.std.proofs.Common.{◌≡◌, ℕ, sym, subst, inl, inr, ◌∙◌, true, List, [], ◌∷◌, flat_map}
use Rattle.std.proofs.lemmas.Bool.{or_left}
use Rattle.std.proofs.lemmas.List.Folds.{list_any-append}
use Rattle.world_model.specs.Types.{Name, Lane, Act}
use Rattle.world_model.specs.Types.act
use Rattle.world_model.specs.NameLists.{same_name, has}
use Rattle.world_model.specs.World.{World, unit_of}
use Rattle.world_model.specs.State.{State, Frame}
use Rattle.world_model.specs.Next.{next_world, next_frame, given, next}
use Rattle.world_model.specs.Histories.{state_of}
use Rattle.world_model.specs.Follows.{GivenIsHeld, entry}
use Rattle.world_model.proofs.ListFacts.{Among, or_right}
use Rattle.world_model.proofs.NameFacts.{found_unit, has_among, set_at_same}
use Rattle.world_model.proofs.Joins.{histories_join}
use Rattle.world_model.proofs.Inductions.{one_more}
use Rattle.world_model.proofs.Barrier.{barred, given_lives}

-- a member of the unit of one of these names is a member of their units
among_units : (w : World) (names : List Name) (n m : Name) → Among names n → has (unit_of w n) m ≡ true → has (flat_map (unit_of w) names) m ≡ true
among_units w [] n m k h = absurd k
among_units w (first ∷ names) n m (inl e) h =
    list_any-append (same_name m) (unit_of w first) (flat_map (unit_of w) names)
    ∙ or_left (has (unit_of w first) m) _ (subst (λ (x : Name). has (unit_of w x) m ≡ true) (sym e) h)
among_units w (first ∷ names) n m (inr k) h =
    list_any-append (same_name m) (unit_of w first) (flat_map (unit_of w) names)
    ∙ or_right (has (unit_of w first) m) _ (among_units w names n m k h)

-- what is given is held in the next frame, with its unit
in_frame : (lane : ℕ) (before w : World) (f : Frame) (a : Act) (n m : Name) → Among (given lane a) n → has (unit_of w n) m ≡ true → has (next_frame lane before w f a).held m ≡ true
in_frame lane before w f (act.FrameOpen phase) n m k h = absurd k
in_frame lane before w f act.FrameClose n m k h = absurd k
in_frame lane before w f (act.Kept of) n m k h = absurd k
in_frame lane before w f (act.Loose of) n m k h = absurd k
in_frame lane before w f a n m k h =
    list_any-append (same_name m) (flat_map (unit_of w) (given lane a)) f.held
    ∙ or_left (has (flat_map (unit_of w) (given lane a)) m) _ (among_units w (given lane a) n m k h)

pub given_is_held_holds : GivenIsHeld
given_is_held_holds z history lane a legal n h =
    let parts = (histories_join.one_more z history (entry (Lane lane) a)).0 legal in
    let bars = barred z history parts.0 in
    let k = has_among (given lane a) n h in
    let s = state_of history in
    let w = next_world s.marks s.world (Lane lane) a in
    let lives = given_lives z s lane a parts.1 bars.named bars.holding n k in
    let own = found_unit w.units n lives in
    let frame = next_frame lane s.world w (s.frames lane) a in
    let all : (m : Name) → has (unit_of w n) m ≡ true → has ((next s (entry (Lane lane) a)).frames lane).held m ≡ true =
    λ m e. subst (λ (f : Frame). has f.held m ≡ true) (sym (set_at_same s.frames lane frame)) (in_frame lane s.world w (s.frames lane) a n m k e) in
    subst (λ (t : State). (has (t.frames lane).held n ≡ true) × ((m : Name) → has (unit_of t.world n) m ≡ true → has (t.frames lane).held m ≡ true)) (sym (one_more history (entry (Lane lane) a)))
    (all n own.1, all)
