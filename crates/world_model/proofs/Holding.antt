-- In every legal history a lane holds what it holds with all members of its unit.
use Rattle.std.proofs.Common.{◌≡◌, ℕ, refl, sym, ap, ◌∙◌, inl, inr, true, false, List, [], ◌∷◌, ◌++◌, flat_map, ◌⊎◌}
use Rattle.std.proofs.lemmas.Bool.{or_left}
use Rattle.std.proofs.lemmas.List.Folds.{list_any-append}
use Rattle.world_model.specs.Types.{Name, Pass, Lane, Marker, Collector, Act, Entry}
use Rattle.world_model.specs.Types.act
use Rattle.world_model.specs.Types.commit
use Rattle.world_model.specs.Sizes.{Sizes}
use Rattle.world_model.specs.NameLists.{same_name, has}
use Rattle.world_model.specs.World.{World, unit_of, in_world}
use Rattle.world_model.specs.State.{State}
use Rattle.world_model.specs.Next.{next_world, next_frame, next_by, next, given}
use Rattle.world_model.specs.Histories.{MayBy, May, state_of}
use Rattle.world_model.specs.Follows.{is_done, HeldWithUnit}
use Rattle.world_model.specs.Midway.{AreApart}
use Rattle.world_model.proofs.ListFacts.{or_true, or_right, Among}
use Rattle.world_model.proofs.NameFacts.{found_unit}
use Rattle.world_model.proofs.Units.{next_apart, units_apart}
use Rattle.world_model.proofs.Quiet.{not_open}
use Rattle.world_model.proofs.Inductions.{by_states}
use Rattle.world_model.proofs.Barrier.{IsBarred, barred, given_lives, living_stays, by_no_lane, by_no_marker, own_unit, set_at_other}
use Rattle.world_model.proofs.Frames.{never_join}

-- the lane holds these with their units
abbrev WithUnits : World → List Name → Type 0
WithUnits w held = (n m : Name) → has held n ≡ true → has (unit_of w n) m ≡ true → has held m ≡ true

-- units of names that live, each with all its members
units_closed : (w : World) → AreApart w.kinds w.units → (ns : List Name) → ((g : Name) → Among ns g → in_world w g ≡ true) → WithUnits w (flat_map (unit_of w) ns)
units_closed w apart [] live n m h e = absurd cc
units_closed w apart (g ∷ ns) live n m h e =
    go (λ later. units_closed w apart ns (λ x k. live x (inr k)) n m later e)
    (or_true _ _ (sym (list_any-append (same_name n) (unit_of w g) (flat_map (unit_of w) ns)) ∙ h))
  where
    go : (has (flat_map (unit_of w) ns) n ≡ true → has (flat_map (unit_of w) ns) m ≡ true)
        → (has (unit_of w g) n ≡ true) ⊎ (has (flat_map (unit_of w) ns) n ≡ true) → has (unit_of w g ++ flat_map (unit_of w) ns) m ≡ true
    go rest (inl here) =
        let unit = found_unit w.units g (live g (inl refl)) in
        let same : unit_of w n ≡ unit_of w g = own_unit w apart (unit_of w g) n unit.0 here in
        list_any-append (same_name m) (unit_of w g) (flat_map (unit_of w) ns) ∙ or_left _ _ (ap (λ (u : List Name). has u m) (sym same) ∙ e)
    go rest (inr later) =
        list_any-append (same_name m) (unit_of w g) (flat_map (unit_of w) ns) ∙ or_right (has (unit_of w g) m) _ (rest later)

-- what was held is held with its unit after an entry that is no commit
still_closed : (z : Sizes) (s : State) (p : Pass) (a : Act) (held : List Name) → AreApart s.world.kinds s.world.units → is_done a ≡ false → ((n : Name) → has held n ≡ true → in_world s.world n ≡ true)
    → WithUnits s.world held → WithUnits (next_world s.marks s.world p a) held
still_closed z s p a held apart other lives h n m is e = h n m is (never_join z s p a n m apart (lives n is) (living_stays s p a n other (lives n is)) e)

own_closed : (z : Sizes) (s : State) (lane : ℕ) (a : Act) → MayBy z s (Lane lane) a → AreApart s.world.kinds s.world.units → IsBarred s → WithUnits s.world (s.frames lane).held
    → WithUnits (next_world s.marks s.world (Lane lane) a) (next_frame lane s.world (next_world s.marks s.world (Lane lane) a) (s.frames lane) a).held
own_closed z s lane (act.FrameOpen phase) may apart bars h n m is e = absurd cc
own_closed z s lane act.FrameClose may apart bars h n m is e = absurd cc
own_closed z s lane (act.Kept of) may apart bars h n m is e = h n m is e
own_closed z s lane (act.Loose of) may apart bars h n m is e = still_closed z s (Lane lane) (act.Loose of) (s.frames lane).held apart refl (bars.holding.lives lane) h n m is e
own_closed z s lane a may apart bars h n m is e = go (or_true _ _ (sym (list_any-append (same_name n) new (s.frames lane).held) ∙ is))
  where
    w : World
    w = next_world s.marks s.world (Lane lane) a

    new : List Name
    new = flat_map (unit_of w) (given lane a)

    go : (has new n ≡ true) ⊎ (has (s.frames lane).held n ≡ true) → has (new ++ (s.frames lane).held) m ≡ true
    go (inl fresh) =
        list_any-append (same_name m) new (s.frames lane).held
        ∙ or_left _ _ (units_closed w (next_apart z s (Lane lane) a may apart) (given lane a) (given_lives z s lane a may bars.named bars.holding) n m fresh e)
    go (inr old) =
        list_any-append (same_name m) new (s.frames lane).held
        ∙ or_right (has new m) _ (still_closed z s (Lane lane) a (s.frames lane).held apart (by_no_lane z s lane a may) (bars.holding.lives lane) h n m old e)

next_closed : (z : Sizes) (s : State) (e : Entry) → May z s e → AreApart s.world.kinds s.world.units → IsBarred s
    → ((lane : ℕ) → WithUnits s.world (s.frames lane).held) → (lane : ℕ) → WithUnits (next s e).world ((next s e).frames lane).held
next_closed z s e may apart bars h = go e.pass e.act may
  where
    go : (p : Pass) (a : Act) → MayBy z s p a → (lane : ℕ) → WithUnits (next_world s.marks s.world p a) ((next_by s (next_world s.marks s.world p a) p a).frames lane).held
    go (Lane l) a may = set_at_other s.frames l (next_frame l s.world (next_world s.marks s.world (Lane l) a) (s.frames l) a) (λ i f. WithUnits (next_world s.marks s.world (Lane l) a) f.held)
        (own_closed z s l a may apart bars (h l)) (λ i other. still_closed z s (Lane l) a (s.frames i).held apart (by_no_lane z s l a may) (bars.holding.lives i) (h i))
    go (Marker m) a may = λ lane. still_closed z s (Marker m) a (s.frames lane).held apart (by_no_marker z s m a may) (bars.holding.lives lane) (h lane)
    go Collector (act.CommitGc commit.Done) may = λ lane n m is. absurd (not_open s.world (Lane lane) (bars.holding.opened lane n is) may.may.closed)
    go Collector a may = λ lane. still_closed z s Collector a (s.frames lane).held apart refl (bars.holding.lives lane) (h lane)

pub held_with_unit_holds : HeldWithUnit
held_with_unit_holds z history legal = by_states z (λ s. (lane : ℕ) → WithUnits s.world (s.frames lane).held) (λ lane n m is. absurd cc)
    (λ xs e legal may h. next_closed z (state_of xs) e may (units_apart z xs legal) (barred z xs legal) h) history legal
