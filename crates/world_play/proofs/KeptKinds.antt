-- Neither markers nor the collector make objects.
use Rattle.std.proofs.Common.{◌≡◌, ℕ, refl, ◌∙◌, List, [], ◌∷◌, ◌++◌, flat_map}
use Rattle.std.specs.List.{AllByRecursion}
use Rattle.world_model.specs.Sizes.{Sizes}
use Rattle.world_model.specs.State.{State}
use Rattle.world_model.specs.Next.{next, run}
use Rattle.world_model.specs.Histories.{May, LegalFrom}
use Rattle.world_model.specs.Calls.{by, Slice, by_marker}
use Rattle.world_play.specs.Types.{Pass, Lane, Marker, Collector, Act, Entry}
use Rattle.world_play.specs.Types.act
use Rattle.world_play.specs.Types.begin
use Rattle.world_play.specs.Types.commit

-- the pass is no lane
abbrev pub IsNoLane : Pass → Type 0
IsNoLane (Lane lane) = ⊥
IsNoLane (Marker marker) = Unit {0}
IsNoLane Collector = Unit {0}

by_one_marker : (z : Sizes) (s : State) (marker : ℕ) (a : Act) → May z s (record { pass = Marker marker; act = a }) → (next s (record { pass = Marker marker; act = a })).world.kinds ≡ s.world.kinds
by_one_marker z s marker (act.Make kinds first) step = absurd step.may
by_one_marker z s marker (act.BeginGc begin.Started) step = refl
by_one_marker z s marker (act.BeginGc (begin.Running phase)) step = refl
by_one_marker z s marker (act.BeginGc (begin.Purging left)) step = refl
by_one_marker z s marker (act.BeginGc (begin.Frames n)) step = refl
by_one_marker z s marker (act.CommitGc commit.Done) step = refl
by_one_marker z s marker (act.CommitGc (commit.NotMarking phase)) step = refl
by_one_marker z s marker (act.CommitGc (commit.Unfinished word bits)) step = refl
by_one_marker z s marker (act.CommitGc commit.Stores) step = refl
by_one_marker z s marker (act.CommitGc (commit.Frames n)) step = refl
by_one_marker z s marker a step = refl

by_collector : (z : Sizes) (s : State) (a : Act) → May z s (record { pass = Collector; act = a }) → (next s (record { pass = Collector; act = a })).world.kinds ≡ s.world.kinds
by_collector z s (act.Make kinds first) step = absurd step.may
by_collector z s (act.BeginGc begin.Started) step = refl
by_collector z s (act.BeginGc (begin.Running phase)) step = refl
by_collector z s (act.BeginGc (begin.Purging left)) step = refl
by_collector z s (act.BeginGc (begin.Frames n)) step = refl
by_collector z s (act.CommitGc commit.Done) step = refl
by_collector z s (act.CommitGc (commit.NotMarking phase)) step = refl
by_collector z s (act.CommitGc (commit.Unfinished word bits)) step = refl
by_collector z s (act.CommitGc commit.Stores) step = refl
by_collector z s (act.CommitGc (commit.Frames n)) step = refl
by_collector z s a step = refl

one_kept : (z : Sizes) (s : State) (p : Pass) (a : Act) → IsNoLane p → May z s (record { pass = p; act = a }) → (next s (record { pass = p; act = a })).world.kinds ≡ s.world.kinds
one_kept z s (Lane lane) a none step = absurd none
one_kept z s (Marker marker) a none step = by_one_marker z s marker a step
one_kept z s Collector a none step = by_collector z s a step

pub kinds_kept : (z : Sizes) (s : State) (entries : List Entry) → AllByRecursion (λ (e : Entry). IsNoLane e.pass) entries → LegalFrom z s entries → (run s entries).world.kinds ≡ s.world.kinds
kinds_kept z s [] none legal = refl
kinds_kept z s (e ∷ entries) none legal = kinds_kept z (next s e) entries none.1 legal.1 ∙ one_kept z s e.pass e.act none.0 legal.0

-- entries of one such pass, and of several
pub by_no_lane : (p : Pass) (acts : List Act) → IsNoLane p → AllByRecursion (λ (e : Entry). IsNoLane e.pass) (by p acts)
by_no_lane p [] none = tt
by_no_lane p (a ∷ acts) none = (none, by_no_lane p acts none)

pub no_lane_append : (xs ys : List Entry) → AllByRecursion (λ (e : Entry). IsNoLane e.pass) xs → AllByRecursion (λ (e : Entry). IsNoLane e.pass) ys
    → AllByRecursion (λ (e : Entry). IsNoLane e.pass) (xs ++ ys)
no_lane_append [] ys a b = b
no_lane_append (x ∷ xs) ys a b = (a.0, no_lane_append xs ys a.1 b)

pub slices_no_lane : (p : Pass) (calls : List (List Act)) → IsNoLane p → AllByRecursion (λ (e : Entry). IsNoLane e.pass) (flat_map (by p) calls)
slices_no_lane p [] none = tt
slices_no_lane p (acts ∷ calls) none = no_lane_append (by p acts) (flat_map (by p) calls) (by_no_lane p acts none) (slices_no_lane p calls none)

pub marks_no_lane : (slices : List Slice) → AllByRecursion (λ (e : Entry). IsNoLane e.pass) (flat_map by_marker slices)
marks_no_lane [] = tt
marks_no_lane (slice ∷ slices) = no_lane_append (by_marker slice) (flat_map by_marker slices) (by_no_lane (Marker slice.marker) slice.acts tt) (marks_no_lane slices)
