-- What is a pass's own of a seat is as the seat has seen it.
use Rattle.std.proofs.Common.{◌≡◌, ◌≢◌, ℕ, ◌<◌, ◌≤◌, ◌⊎◌, rules, refl, sym, ap, ◌∙◌, subst, inl, inr, ⊎_elim, Bool, true, false, List, ◌++◌}
use Rattle.std.specs.Prelude.{nat_lt}
use mathlib.Core.Option.{some}
use lib.ListN.{get_elem?}
use Rattle.atomic_table.specs.Table as tables
use Rattle.world_model.specs.Sizes.{Sizes}
use Rattle.world_model.specs.State.{State}
use Rattle.world_model.specs.Histories.{Legal, state_of}
use Rattle.world_model.specs.Follows.{AreActors, IsActor, IsOwn}
use Rattle.world_model.specs.Stays.{IsMarkers, IsCollectors}
use Rattle.world_model.proofs.Frames.{few_open_holds, own_stays_holds}
use Rattle.world_model.proofs.Leaving.{markers_stay_holds, collectors_stay_holds}
use Rattle.heap_rule.specs.Types.{Pass, Lane, Marker, Collector, View}
use Rattle.heap_rule.specs.Views.{has_pass, Absent}
use Rattle.heap_rule.specs.Rule.{Keeps}
use Rattle.heap_rule.proofs.Pasts.{apart}
use Rattle.heap_rule.proofs.Joins.{others_of}

module _ (z : Sizes) (s : tables.State (Unit {0}) View) (k : Keeps z s) where
  -- what is open is of the shape, each once
  pub actors : AreActors z k.s.world.opened
  actors = subst (λ (t : State). AreActors z t.world.opened) k.past.left (few_open_holds z k.history k.past.legal)

  module _ (id : ℕ) (v : View) (at : get_elem? s.views id ≡ some v) where
    legal : Legal z (v.front ++ (k.past.sees id v at).rest)
    legal = subst (Legal z) (k.past.sees id v at).begins k.past.legal

    now : (Q : State → Type 0) → Q (state_of (v.front ++ (k.past.sees id v at).rest)) → Q k.s
    now Q h = subst Q (ap state_of (sym (k.past.sees id v at).begins) ∙ k.past.left) h

    pub lane_now : (l : ℕ) → has_pass v.passes (Lane l) ≡ true → IsOwn l (state_of v.front) k.s
    lane_now l own =
        let seen = k.past.sees id v at in now (IsOwn l (state_of v.front)) (own_stays_holds z v.front seen.rest l legal (others_of v.passes (Lane l) own seen.rest seen.others))

    pub marker_now : (m : ℕ) → has_pass v.passes (Marker m) ≡ true → IsMarkers m (state_of v.front) k.s
    marker_now m own =
        let seen = k.past.sees id v at in now (IsMarkers m (state_of v.front)) (markers_stay_holds z v.front seen.rest m legal (others_of v.passes (Marker m) own seen.rest seen.others))

    pub collector_now : has_pass v.passes Collector ≡ true → IsCollectors (state_of v.front) k.s
    collector_now own =
        let seen = k.past.sees id v at in now (IsCollectors (state_of v.front)) (collectors_stay_holds z v.front seen.rest legal (others_of v.passes Collector own seen.rest seen.others))

    -- another seat has not the pass
    pub not_theirs : (j : ℕ) (u : View) → j ≢ id → get_elem? s.views j ≡ some u → (p : Pass) → has_pass v.passes p ≡ true → has_pass u.passes p ≡ false
    not_theirs j u other there p own = apart k.owner j id u.passes p other ((k.past.sees id v at).own p own) (k.past.sees j u there).own

  -- so a lane or marker that is at work is another seat's for it
  pub absent : (passes : List Pass) (p : Pass) → IsActor z p → has_pass passes p ≡ false → Absent z passes
  absent passes p actor off = (p, actor, off)

  below_or : (i n : ℕ) → (i < n) ⊎ (n ≤ i)
  below_or i n = go (nat_lt i n) refl
    where
      go : (b : Bool) → nat_lt i n ≡ b → (i < n) ⊎ (n ≤ i)
      go true e = inl (search rules)
      go false e = inr (search rules)

  -- only lanes and markers of the shape are open
  pub lane_inside : (l : ℕ) → k.c.lane_open l ≡ true → l < z.lanes
  lane_inside l open_now = ⊎_elim (λ few. few) (λ far. let wrong : false ≡ true = sym (k.lawful.open_in.lanes l far) ∙ open_now in absurd cc) (below_or l z.lanes)

  pub marker_inside : (m : ℕ) → k.c.marker_open m ≡ true → m < z.markers
  marker_inside m open_now = ⊎_elim (λ few. few) (λ far. let wrong : false ≡ true = sym (k.lawful.open_in.markers m far) ∙ open_now in absurd cc) (below_or m z.markers)
