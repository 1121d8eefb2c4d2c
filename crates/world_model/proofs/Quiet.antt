-- A collection during which nothing is written keeps the reached units and no others.
use Rattle.std.proofs.Common.{◌≡◌, ◌≢◌, ℕ, refl, sym, subst, ap, ◌∙◌, inl, inr, Bool, cond, not, true, false, ◌||◌, ◌&&◌, ◌==◌, List, [], ◌∷◌, ◌++◌, Some, ◌⊎◌, IsTrue}
use Rattle.std.specs.List.{list_any, AllByRecursion}
use Rattle.std.proofs.lemmas.Bool.{eqb-true, eq-eqb}
use Rattle.world_model.specs.Types.{Name, Phase, Marking, Pass, Lane, Marker, Collector, SweepStop, Act, Entry}
use Rattle.world_model.specs.Types.act
use Rattle.world_model.specs.Types.begin
use Rattle.world_model.specs.Types.commit
use Rattle.world_model.specs.Types.sweep
use Rattle.world_model.specs.Sizes.{Sizes}
use Rattle.world_model.specs.NameLists.{same_pass, has, set_at}
use Rattle.world_model.specs.World.{World, unit_of, in_world}
use Rattle.world_model.specs.Reach.{Graph, graph, IsUnit, Refers, IsRootUnit, IsReached}
use Rattle.world_model.specs.State.{State, Frame, Slicing, AtSomeMoment, is_marked}
use Rattle.world_model.specs.Next.{next_world, next_by, next, run, settled, seen, own_slices, is_kept}
use Rattle.world_model.specs.LaneSteps.{PaysFor}
use Rattle.world_model.specs.Histories.{MayBy, May, LegalFrom, state_of}
use Rattle.world_model.specs.Laws.{is_quiet, started, done, KeepsReached, QuietIsExact}
use Rattle.world_model.specs.Midway.{AreApart}
use Rattle.world_model.proofs.Joins.{histories_join, run-append, legal_split}
use Rattle.world_model.proofs.Reaches.{reach_by_walks_holds, reached_unit}
use Rattle.world_model.proofs.ListFacts.{and_true, or_right, Among, among_filter, contains_among, among_contains, filter_among, among_filter_test, any_filter, filter_any}
use Rattle.world_model.proofs.NameFacts.{any_more, found_unit, set_at_same}
use Rattle.world_model.proofs.Units.{next_apart, units_apart}

-- ---- what a quiet collection keeps

-- each of these moments had this graph
abbrev pub SameGraphs : Graph → List World → Type 0
SameGraphs g [] = Unit {0}
SameGraphs g (w ∷ earlier) = (graph w ≡ g) × SameGraphs g earlier

-- what held at some moment holds now
at_moment : (P : Graph → Type 0) (g : Graph) (moments : List World) → SameGraphs g moments → AtSomeMoment moments (λ w. P (graph w)) → P g
at_moment P g [] same h = absurd h
at_moment P g (w ∷ earlier) same (inl h) = subst P same.0 h
at_moment P g (w ∷ earlier) same (inr h) = at_moment P g earlier same.1 h

-- a lane has marked a unit, and has still to store it
abbrev pub IsStuck : List Pass → (ℕ → Frame) → Type 0
IsStuck opened frames = (lane : ℕ) × (n : Name) × IsTrue (list_any (same_pass (Lane lane)) opened) × ((frames lane).owed ≡ Some n)

-- nothing was made, the graph has been as it is, and what was marked is reached
pub record IsSteady (g : Graph) (opened : List Pass) (fresh kept : List Name) (moments : List World) (slices : ℕ → Slicing) : Type 0 where
  pub none_made : fresh ≡ []
  pub graphs : SameGraphs g moments
  pub in_slices : (m : ℕ) → list_any (same_pass (Marker m)) opened ≡ true → SameGraphs g (slices m).moments
  pub reached : (u : List Name) → Among g.units u → list_any (has kept) u ≡ true → IsReached g u

abbrev pub Outcome : State → Type 0
Outcome s = (s.world.phase ≢ Marking) ⊎ IsStuck s.world.opened s.frames ⊎ IsSteady (graph s.world) s.world.opened s.marks.fresh s.marks.kept s.marks.moments s.slices

-- one more moment with the same graph
carry : (g : Graph) (opened opened' : List Pass) (fresh kept : List Name) (moments : List World) (slices own : ℕ → Slicing) (w : World) (keeps : Bool)
    → graph w ≡ g → ((m : ℕ) → list_any (same_pass (Marker m)) opened' ≡ true → SameGraphs g (own m).moments)
    → IsSteady g opened fresh kept moments slices → IsSteady g opened' fresh kept (w ∷ moments) (λ m. seen w keeps (own m))
carry g opened opened' fresh kept moments slices own w keeps same in_slices h = record {
  none_made = h.none_made;
  graphs = (same, h.graphs);
  in_slices = λ m is. (same, in_slices m is);
  reached = h.reached;
}

-- the moments of a slice behind a change of one slice
chosen : (g : Graph) (slices : ℕ → Slicing) (k m : ℕ) (new : Slicing) → (m ≡ k → SameGraphs g new.moments)
    → ((m == k) ≡ false → SameGraphs g (slices m).moments) → SameGraphs g (set_at slices k new m).moments
chosen g slices k m new same other = go (m == k) refl
  where
    go : (b : Bool) → (m == k) ≡ b → SameGraphs g (cond b new (slices m)).moments
    go true e = same (eqb-true m k e)
    go false e = other e

-- one more object is kept: its unit is reached
one_more_kept : (w : World) (kept : List Name) (of : Name) → AreApart w.kinds w.units → in_world w of ≡ true → IsReached (graph w) (unit_of w of)
    → ((u : List Name) → Among w.units u → list_any (has kept) u ≡ true → IsReached (graph w) u) → (u : List Name) → Among w.units u → list_any (has (of ∷ kept)) u ≡ true → IsReached (graph w) u
one_more_kept w kept of apart living reached old u among is = go (any_more of kept u is)
  where
    go : (has u of ≡ true) ⊎ (list_any (has kept) u ≡ true) → IsReached (graph w) u
    go (inl e) = let r = found_unit w.units of living in subst (λ (v : List Name). IsReached (graph w) v) (apart.apart (unit_of w of) u of r.0 among r.1 e) reached
    go (inr e) = old u among e

-- a lane that owes a store makes no quiet entry
pays_quiet : (w : World) (n : Name) (a : Act) → is_quiet a ≡ true → PaysFor w (Some n) a → ⊥
pays_quiet w n (act.WriteRef at slot to old) quiet h = cc
pays_quiet w n (act.SetStrong h to old) quiet p = cc
pays_quiet w n (act.Root at on old) quiet h = cc
pays_quiet w n _ quiet h = h

-- an entry of a slice other than its opening leaves it open, with the moments that it had
kept_slices : (g : Graph) (opened : List Pass) (slices : ℕ → Slicing) (k : ℕ) (new : Slicing) → new.moments ≡ (slices k).moments
    → ((m : ℕ) → list_any (same_pass (Marker m)) opened ≡ true → SameGraphs g (slices m).moments) → (m : ℕ)
    → list_any (same_pass (Marker m)) opened ≡ true → SameGraphs g (set_at slices k new m).moments
kept_slices g opened slices k new same h m is = chosen g slices k m new (λ e. subst (SameGraphs g) (sym same) (subst (λ (i : ℕ). SameGraphs g (slices i).moments) e (h m is))) (λ f. h m is)

pub not_open : (w : World) (p : Pass) → list_any (same_pass p) w.opened ≡ true → w.opened ≡ [] → ⊥
not_open w p is none = let wrong : false ≡ true = rw none at is in cc

-- ---- from a steady state

pub any_none : (u : List Name) → list_any (has []) u ≡ true → ⊥
any_none [] h = cc
any_none (n ∷ u) h = any_none u h

steady_lane : (z : Sizes) (s : State) (lane : ℕ) (a : Act) → MayBy z s (Lane lane) a → is_quiet a ≡ true → AreApart s.world.kinds s.world.units
    → IsSteady (graph s.world) s.world.opened s.marks.fresh s.marks.kept s.marks.moments s.slices → Outcome (next_by s (next_world s.marks s.world (Lane lane) a) (Lane lane) a)
steady_lane z s lane (act.Kept of) may quiet apart h = inr (inl (lane, of, may.frame.opened, ap (λ f. f.owed) (set_at_same s.frames lane _)))
steady_lane z s lane act.FrameClose may quiet apart h =
    inr (inr (carry (graph s.world) s.world.opened _ s.marks.fresh s.marks.kept s.marks.moments s.slices s.slices (next_world s.marks s.world (Lane lane) act.FrameClose) _ refl
    (λ m is. h.in_slices m (any_filter _ _ s.world.opened is)) h))
steady_lane z s lane (act.Loose of) may quiet apart h = inl may.may.unmarked
steady_lane z s lane act.SliceOpen may quiet apart h = absurd may.may
steady_lane z s lane (act.Slice budget reply) may quiet apart h = absurd may.may
steady_lane z s lane (act.BeginGc reply) may quiet apart h = absurd may.may
steady_lane z s lane (act.CommitGc reply) may quiet apart h = absurd may.may
steady_lane z s lane (act.Make kinds first) may quiet apart h = absurd cc
steady_lane z s lane (act.WriteRef at slot to old) may quiet apart h = absurd cc
steady_lane z s lane (act.Root at on old) may quiet apart h = absurd cc
steady_lane z s lane (act.SetStrong number to old) may quiet apart h = absurd cc
steady_lane z s lane a may quiet apart h =
    inr (inr (carry (graph s.world) s.world.opened _ s.marks.fresh s.marks.kept s.marks.moments s.slices s.slices (next_world s.marks s.world (Lane lane) a) _ refl h.in_slices h))

steady_marker : (z : Sizes) (s : State) (marker : ℕ) (a : Act) → MayBy z s (Marker marker) a → is_quiet a ≡ true → AreApart s.world.kinds s.world.units
    → IsSteady (graph s.world) s.world.opened s.marks.fresh s.marks.kept s.marks.moments s.slices → Outcome (next_by s (next_world s.marks s.world (Marker marker) a) (Marker marker) a)
steady_marker z s marker act.SliceOpen may quiet apart h =
    inr
    (inr
    (carry (graph s.world) s.world.opened _ s.marks.fresh s.marks.kept s.marks.moments s.slices
    (own_slices s.collector.shading (next_world s.marks s.world (Marker marker) act.SliceOpen) s.slices (Marker marker) act.SliceOpen)
    (next_world s.marks s.world (Marker marker) act.SliceOpen) (same_pass (Marker marker) Collector && is_kept act.SliceOpen) refl
    (λ m is. chosen (graph s.world) s.slices marker m _ (λ e. tt) (λ f. h.in_slices m (rw f at is))) h))
steady_marker z s marker (act.Slice budget reply) may quiet apart h =
    inr
    (inr
    (carry (graph s.world) s.world.opened _ s.marks.fresh s.marks.kept s.marks.moments s.slices
    (own_slices s.collector.shading (next_world s.marks s.world (Marker marker) (act.Slice budget reply)) s.slices (Marker marker)
    (act.Slice budget reply)) (next_world s.marks s.world (Marker marker) (act.Slice budget reply))
    (same_pass (Marker marker) Collector && is_kept (act.Slice budget reply)) refl
    (λ m is. kept_slices (graph s.world) s.world.opened s.slices marker (s.slices marker) refl h.in_slices m (any_filter _ _ s.world.opened is)) h))
steady_marker z s marker (act.Scanned of) may quiet apart h =
    inr
    (inr
    (carry (graph s.world) s.world.opened _ s.marks.fresh s.marks.kept s.marks.moments s.slices
    (own_slices s.collector.shading (next_world s.marks s.world (Marker marker) (act.Scanned of)) s.slices (Marker marker) (act.Scanned of))
    (next_world s.marks s.world (Marker marker) (act.Scanned of)) (same_pass (Marker marker) Collector && is_kept (act.Scanned of)) refl
    (λ m is. kept_slices (graph s.world) s.world.opened s.slices marker _ refl h.in_slices m is) h))
steady_marker z s marker (act.Kept of) may quiet apart h = inr (inr (record {
  none_made = h.none_made;
  graphs = (refl, h.graphs);
  in_slices = λ m is. (refl, kept_slices (graph s.world) s.world.opened s.slices marker (s.slices marker) refl h.in_slices m is);
  reached = one_more_kept s.world s.marks.kept of apart may.may.white.living
      ((reach_by_walks_holds (graph s.world)).refers may.may.from (unit_of s.world of) (among_contains s.world.units (unit_of s.world of) (found_unit s.world.units of may.may.white.living).0)
      (h.reached may.may.from (contains_among s.world.units may.may.from may.may.unit) (and_true _ _ may.may.grey).0)
      (at_moment (λ g. Refers g may.may.from (unit_of s.world of)) (graph s.world) (s.slices marker).moments (h.in_slices marker may.slice) may.may.refers))
      h.reached;
}))
steady_marker z s marker (act.BeginGc reply) may quiet apart h = absurd may.may
steady_marker z s marker (act.CommitGc reply) may quiet apart h = absurd may.may
steady_marker z s marker _ may quiet apart h = absurd may.may

-- a collection that has just started is steady
fresh_start : (z : Sizes) (s : State) → MayBy z s Collector (act.BeginGc begin.Started)
    → Outcome (next_by s (next_world s.marks s.world Collector (act.BeginGc begin.Started)) Collector (act.BeginGc begin.Started))
fresh_start z s may = inr (inr (record {
  none_made = refl;
  graphs = (refl, tt);
  in_slices = λ m is. absurd (not_open s.world (Marker m) is may.may.1);
  reached = λ u among is. absurd (any_none u is);
}))

steady_next : (z : Sizes) (s : State) (p : Pass) (a : Act) → MayBy z s p a → is_quiet a ≡ true → AreApart s.world.kinds s.world.units
    → IsSteady (graph s.world) s.world.opened s.marks.fresh s.marks.kept s.marks.moments s.slices → Outcome (next_by s (next_world s.marks s.world p a) p a)
steady_next z s Collector (act.BeginGc begin.Started) may quiet apart h = fresh_start z s may
steady_next z s Collector (act.CommitGc commit.Done) may quiet apart h = inl (λ e. cc)
steady_next z s Collector (act.Kept of) may quiet apart h = inr (inr (record {
  none_made = h.none_made;
  graphs = (refl, h.graphs);
  in_slices = λ m is. (refl, h.in_slices m is);
  reached = one_more_kept s.world s.marks.kept of apart may.may.white.living
      ((reach_by_walks_holds (graph s.world)).roots (unit_of s.world of) (among_contains s.world.units (unit_of s.world of) (found_unit s.world.units of may.may.white.living).0)
      (at_moment (λ g. IsRootUnit g (unit_of s.world of)) (graph s.world) s.marks.moments h.graphs may.may.root))
      h.reached;
}))
steady_next z s Collector (act.FrameOpen phase) may quiet apart h = absurd may.may
steady_next z s Collector act.FrameClose may quiet apart h = absurd may.may
steady_next z s Collector act.SliceOpen may quiet apart h = absurd may.may
steady_next z s Collector (act.Slice budget reply) may quiet apart h = absurd may.may
steady_next z s Collector (act.Loose of) may quiet apart h = absurd may.may
steady_next z s Collector (act.Make kinds first) may quiet apart h = absurd cc
steady_next z s Collector (act.WriteRef at slot to old) may quiet apart h = absurd cc
steady_next z s Collector (act.Root at on old) may quiet apart h = absurd cc
steady_next z s Collector (act.SetStrong number to old) may quiet apart h = absurd cc
steady_next z s Collector a may quiet apart h =
    inr
    (inr
    (carry (graph s.world) s.world.opened s.world.opened s.marks.fresh s.marks.kept s.marks.moments s.slices s.slices
    (next_world s.marks s.world Collector a) _ refl h.in_slices h))
steady_next z s (Lane lane) a may quiet apart h = steady_lane z s lane a may quiet apart h
steady_next z s (Marker marker) a may quiet apart h = steady_marker z s marker a may quiet apart h

-- ---- from a stuck state

pub other_lane : (lane l : ℕ) (x : Pass) → (lane == l) ≡ false → same_pass (Lane lane) x ≡ true → not (same_pass (Lane l) x) ≡ true
other_lane lane l (Lane j) apart e = go (l == j) refl
  where
    go : (b : Bool) → (l == j) ≡ b → not b ≡ true
    go true f = absurd (let same : lane ≡ l = eqb-true lane j e ∙ sym (eqb-true l j f) in let t : (lane == l) ≡ true = eq-eqb lane l same in cc)
    go false f = refl
other_lane lane l (Marker m) apart e = absurd cc
other_lane lane l Collector apart e = absurd cc

pub no_lane : (lane m : ℕ) (x : Pass) → same_pass (Lane lane) x ≡ true → not (same_pass (Marker m) x) ≡ true
no_lane lane m (Lane j) e = refl
no_lane lane m (Marker j) e = absurd cc
no_lane lane m Collector e = absurd cc

-- the stuck lane itself makes no quiet entry
own_stuck : (z : Sizes) (s : State) (lane : ℕ) (n : Name) (a : Act) → MayBy z s (Lane lane) a → is_quiet a ≡ true
    → list_any (same_pass (Lane lane)) s.world.opened ≡ true → (s.frames lane).owed ≡ Some n → ⊥
own_stuck z s lane n (act.FrameOpen phase) may quiet is owed = let wrong : list_any (same_pass (Lane lane)) s.world.opened ≡ false = may.frame in cc
own_stuck z s lane n a may quiet is owed = pays_quiet s.world n a quiet (rw owed at may.frame.continues)

-- a lane stays open under the entries of others
pub still_open : (s : State) (p : Pass) (a : Act) (lane : ℕ) → ((x : Pass) → same_pass (Lane lane) x ≡ true → not (same_pass p x) ≡ true) → list_any (same_pass (Lane lane)) s.world.opened ≡ true
    → list_any (same_pass (Lane lane)) (next_world s.marks s.world p a).opened ≡ true
still_open s p (act.FrameOpen phase) lane other is = or_right (same_pass (Lane lane) p) _ is
still_open s p act.SliceOpen lane other is = or_right (same_pass (Lane lane) p) _ is
still_open s p act.FrameClose lane other is = filter_any (same_pass (Lane lane)) (λ q. not (same_pass p q)) s.world.opened other is
still_open s p (act.Slice budget reply) lane other is = filter_any (same_pass (Lane lane)) (λ q. not (same_pass p q)) s.world.opened other is
still_open s p (act.BeginGc begin.Started) lane other is = is
still_open s p (act.CommitGc commit.Done) lane other is = is
still_open s p _ lane other is = is

pub no_collector : (lane : ℕ) (x : Pass) → same_pass (Lane lane) x ≡ true → not (same_pass Collector x) ≡ true
no_collector lane (Lane j) e = refl
no_collector lane (Marker j) e = refl
no_collector lane Collector e = absurd cc

stuck_next : (z : Sizes) (s : State) (p : Pass) (a : Act) → MayBy z s p a → is_quiet a ≡ true → IsStuck s.world.opened s.frames → Outcome (next_by s (next_world s.marks s.world p a) p a)
stuck_next z s Collector a may quiet stuck = inr (inl (stuck.0, stuck.1, still_open s Collector a stuck.0 (no_collector stuck.0) stuck.2, stuck.3))
stuck_next z s (Marker m) a may quiet stuck = inr (inl (stuck.0, stuck.1, still_open s (Marker m) a stuck.0 (no_lane stuck.0 m) stuck.2, stuck.3))
stuck_next z s (Lane l) a may quiet stuck = go (stuck.0 == l) refl
  where
    go : (b : Bool) → (stuck.0 == l) ≡ b → Outcome (next_by s (next_world s.marks s.world (Lane l) a) (Lane l) a)
    go true e =
        let same : stuck.0 ≡ l = eqb-true stuck.0 l e in
        absurd
        (own_stuck z s l stuck.1 a may quiet (subst (λ (i : ℕ). list_any (same_pass (Lane i)) s.world.opened ≡ true) same stuck.2)
        (subst (λ (i : ℕ). (s.frames i).owed ≡ Some stuck.1) same stuck.3))
    go false e = inr (inl (stuck.0, stuck.1, still_open s (Lane l) a stuck.0 (λ x. other_lane stuck.0 l x e) stuck.2, rw e stuck.3))

-- ---- from a state in which no collection marks

settled_not : (phase : Phase) (stop : SweepStop) → phase ≢ Marking → settled phase stop ≢ Marking
settled_not phase sweep.More h = h
settled_not phase sweep.Settled h = λ e. cc
settled_not phase (sweep.NotGathering p) h = h

idle_next : (z : Sizes) (s : State) (p : Pass) (a : Act) → MayBy z s p a → s.world.phase ≢ Marking → Outcome (next_by s (next_world s.marks s.world p a) p a)
idle_next z s Collector (act.BeginGc begin.Started) may h = fresh_start z s may
idle_next z s (Lane l) (act.BeginGc begin.Started) may h = absurd may.may
idle_next z s (Marker m) (act.BeginGc begin.Started) may h = absurd may.may
idle_next z s p (act.CommitGc commit.Done) may h = inl (λ e. cc)
idle_next z s p (act.Sweep budget reply names) may h = inl (settled_not s.world.phase reply.stop h)
idle_next z s p _ may h = inl h

-- ---- whole histories

outcome_next : (z : Sizes) (s : State) (e : Entry) → May z s e → is_quiet e.act ≡ true → AreApart s.world.kinds s.world.units → Outcome s → Outcome (next s e)
outcome_next z s e may quiet apart (inl h) = idle_next z s e.pass e.act may h
outcome_next z s e may quiet apart (inr (inl h)) = stuck_next z s e.pass e.act may quiet h
outcome_next z s e may quiet apart (inr (inr h)) = steady_next z s e.pass e.act may quiet apart h

outcome_run : (z : Sizes) (s : State) (entries : List Entry) → LegalFrom z s entries → AllByRecursion (λ e. IsTrue (is_quiet e.act)) entries
    → AreApart s.world.kinds s.world.units → Outcome s → Outcome (run s entries)
outcome_run z s [] legal quiet apart h = h
outcome_run z s (e ∷ entries) legal quiet apart h =
    outcome_run z (next s e) entries legal.1 quiet.1 (next_apart z s e.pass e.act legal.0 apart) (outcome_next z s e legal.0 quiet.0 apart h)

-- where nothing was made, a marked unit is kept
marked_kept : (kept u : List Name) → list_any (λ n. has kept n || false) u ≡ true → list_any (has kept) u ≡ true
marked_kept kept [] h = h
marked_kept kept (n ∷ u) h = go (has kept n) (marked_kept kept u) h
  where
    go : (b : Bool) → (list_any (λ m. has kept m || false) u ≡ true → list_any (has kept) u ≡ true)
        → ((b || false) || list_any (λ m. has kept m || false) u) ≡ true → (b || list_any (has kept) u) ≡ true
    go true rest e = refl
    go false rest e = rest e

-- what a commit leaves of the units, from a state that a quiet collection leads to
kept_exactly : (z : Sizes) (s : State) → May z s done → Outcome s → KeepsReached (graph s.world) (graph (next s done).world)
kept_exactly z s may (inl idle) u = absurd (idle may.may.marking)
kept_exactly z s may (inr (inl stuck)) u = absurd (not_open s.world (Lane stuck.0) stuck.2 may.may.closed)
kept_exactly z s may (inr (inr h)) u = (stays_reached, λ reached. reached_stays (is_marked s.marks u) refl reached)
  where
    stays_reached : IsUnit (graph (next s done).world) u → IsReached (graph s.world) u
    stays_reached stays =
        let kept = contains_among _ u stays in
        let marked : is_marked s.marks u ≡ true = among_filter_test (is_marked s.marks) s.world.units u kept in
        h.reached u (among_filter (is_marked s.marks) s.world.units u kept)
        (marked_kept s.marks.kept u (subst (λ (fresh : List Name). list_any (λ n. has s.marks.kept n || has fresh n) u ≡ true) h.none_made marked))

    reached_stays : (b : Bool) → is_marked s.marks u ≡ b → IsReached (graph s.world) u → IsUnit (graph (next s done).world) u
    reached_stays true marked reached = among_contains _ u (filter_among (is_marked s.marks) s.world.units u (contains_among s.world.units u (reached_unit (graph s.world) u reached)) marked)
    reached_stays false white reached = absurd (may.may.unreached u (reached_unit (graph s.world) u reached) white reached)

pub quiet_is_exact_holds : QuietIsExact
quiet_is_exact_holds z before during legal quiet =
    let whole : List Entry = before ++ started ∷ during in
    let parts = (histories_join.one_more z whole done).0 legal in
    let pieces = legal_split z _ before (started ∷ during) parts.0 in
    let before_apart = units_apart z before pieces.0 in
    let begun : Outcome (next (state_of before) started) = fresh_start z (state_of before) pieces.1.0 in
    let ended : Outcome (run (next (state_of before) started) during) =
    outcome_run z (next (state_of before) started) during pieces.1.1 quiet (next_apart z (state_of before) started.pass started.act pieces.1.0 before_apart) begun in
    let joined : run (next (state_of before) started) during ≡ state_of whole = sym (run-append _ before (started ∷ during)) in
    let one : state_of (whole ++ done ∷ []) ≡ next (state_of whole) done = run-append _ whole (done ∷ []) in
    subst (λ (t : State). KeepsReached (graph (state_of whole).world) (graph t.world)) (sym one)
    (kept_exactly z (state_of whole) parts.1 (subst Outcome joined ended))
