-- What is the collector's own, and what is a marker's, stays while others act.
use Rattle.std.proofs.Common.{◌≡◌, ◌≢◌, ℕ, refl, sym, ap, ◌∙◌, subst, inr, Bool, true, false, ◌||◌, Contains}
use Rattle.std.specs.List.{list_any}
use Rattle.world_model.specs.Types.{Pass, Lane, Marker, Collector, Act}
use Rattle.world_model.specs.Types.act
use Rattle.world_model.specs.Types.begin
use Rattle.world_model.specs.Types.commit
use Rattle.world_model.specs.Sizes.{Sizes}
use Rattle.world_model.specs.NameLists.{same_pass}
use Rattle.world_model.specs.World.{World, is_open}
use Rattle.world_model.specs.State.{State, Slicing, Marks}
use Rattle.world_model.specs.Next.{next, next_world, own_slice, own_slices}
use Rattle.world_model.specs.Histories.{MayBy, state_of}
use Rattle.world_model.specs.Stays.{IsCollectors, CollectorsStay, IsMarkers, MarkersStay}
use Rattle.world_model.proofs.ListFacts.{among_contains, contains_among}
use Rattle.world_model.proofs.Inductions.{by_more_states}
use Rattle.world_model.proofs.Barrier.{set_at_other}
use Rattle.world_model.proofs.Frames.{same_pass_true}
use Rattle.world_model.proofs.Opened.{open_others}

-- ---- the collector

same_collectors : (s : State) → IsCollectors s s
same_collectors s = record { phase = refl; removals = refl; last_removed = refl; found = refl; swept = refl; started = refl; shading = refl; steps = refl; asked = refl; agreed = refl }

not_collector : (z : Sizes) (s : State) (p : Pass) (a : Act) → (p ≡ Collector → ⊥) → MayBy z s p a → IsCollectors s (next s (record { pass = p; act = a }))
not_collector z s Collector a other may = absurd (other refl)
not_collector z s (Lane l) (act.BeginGc reply) other may = absurd may.may
not_collector z s (Lane l) (act.CommitGc reply) other may = absurd may.may
not_collector z s (Lane l) (act.Sweep budget reply names) other may = absurd may.may
not_collector z s (Lane l) (act.Begun of) other may = absurd may.may
not_collector z s (Lane l) (act.Asked of poll answer) other may = absurd may.may
not_collector z s (Lane l) (act.Finished of) other may = absurd may.may
not_collector z s (Lane l) (act.Released of) other may = absurd may.may
not_collector z s (Marker m) (act.BeginGc reply) other may = absurd may.may
not_collector z s (Marker m) (act.CommitGc reply) other may = absurd may.may
not_collector z s (Marker m) (act.Sweep budget reply names) other may = absurd may.may
not_collector z s (Marker m) (act.Begun of) other may = absurd may.may
not_collector z s (Marker m) (act.Asked of poll answer) other may = absurd may.may
not_collector z s (Marker m) (act.Finished of) other may = absurd may.may
not_collector z s (Marker m) (act.Released of) other may = absurd may.may
not_collector z s (Lane l) _ other may = record {
  phase = refl;
  removals = refl;
  last_removed = refl;
  found = refl;
  swept = refl;
  started = refl;
  shading = refl;
  steps = refl;
  asked = refl;
  agreed = refl;
}
not_collector z s (Marker m) _ other may = record {
  phase = refl;
  removals = refl;
  last_removed = refl;
  found = refl;
  swept = refl;
  started = refl;
  shading = refl;
  steps = refl;
  asked = refl;
  agreed = refl;
}

collectors_join : (r s t : State) → IsCollectors r s → IsCollectors s t → IsCollectors r t
collectors_join r s t a b = record {
  phase = b.phase ∙ a.phase;
  removals = b.removals ∙ a.removals;
  last_removed = b.last_removed ∙ a.last_removed;
  found = b.found ∙ a.found;
  swept = b.swept ∙ a.swept;
  started = b.started ∙ a.started;
  shading = b.shading ∙ a.shading;
  steps = b.steps ∙ a.steps;
  asked = b.asked ∙ a.asked;
  agreed = b.agreed ∙ a.agreed;
}

pub collectors_stay_holds : CollectorsStay
collectors_stay_holds z before during legal all =
    by_more_states z before (IsCollectors (state_of before)) (λ e. e.pass ≢ Collector) (same_collectors (state_of before))
    (λ xs e legal may other h. collectors_join (state_of before) (state_of xs) (next (state_of xs) e) h (not_collector z (state_of xs) e.pass e.act other may)) during legal all

-- ---- a marker

opened_next : (k : Marks) (w : World) (p q : Pass) (a : Act) → same_pass q p ≡ false → is_open (next_world k w p a) q ≡ is_open w q
opened_next k w p q (act.FrameOpen phase) off = ap (λ (b : Bool). b || list_any (same_pass q) w.opened) off
opened_next k w p q act.SliceOpen off = ap (λ (b : Bool). b || list_any (same_pass q) w.opened) off
opened_next k w p q act.FrameClose off = open_others p q off w.opened
opened_next k w p q (act.Slice budget reply) off = open_others p q off w.opened
opened_next k w p q (act.BeginGc begin.Started) off = refl
opened_next k w p q (act.CommitGc commit.Done) off = refl
opened_next k w p q _ off = refl

slices_next : (m : ℕ) (shading : Bool) (w : World) (slices : ℕ → Slicing) (p : Pass) (a : Act) → (p ≡ Marker m → ⊥) → own_slices shading w slices p a m ≡ slices m
slices_next m shading w slices (Lane l) a off = refl
slices_next m shading w slices Collector a off = refl
slices_next m shading w slices (Marker j) a off =
    set_at_other slices j (own_slice shading w (slices j) a) (λ i s. i ≡ m → s ≡ slices m) (λ same. absurd (off (ap Marker same))) (λ i far same. ap slices same) m refl

not_same : (p : Pass) (m : ℕ) → (p ≡ Marker m → ⊥) → same_pass (Marker m) p ≡ false
not_same p m off = go (same_pass (Marker m) p) refl
  where
    go : (b : Bool) → same_pass (Marker m) p ≡ b → b ≡ false
    go true e = absurd (off (sym (same_pass_true (Marker m) p e)))
    go false e = refl

not_marker : (s : State) (m : ℕ) (p : Pass) (a : Act) → (p ≡ Marker m → ⊥) → IsMarkers m s (next s (record { pass = p; act = a }))
not_marker s m p a other =
    let w : World = next_world s.marks s.world p a in
    let same = slices_next m s.collector.shading w s.slices p a other in
    record {
      opened = opened_next s.marks s.world p (Marker m) a (not_same p m other);
      scanned = ap (λ (s : Slicing). s.scanned) same;
      moments = λ v k. among_contains ((next s (record { pass = p; act = a })).slices m).moments v (inr (contains_among _ v (subst (λ (s : Slicing). Contains s.moments v) (sym same) k)));
    }

pub markers_stay_holds : MarkersStay
markers_stay_holds z before during m legal all =
    by_more_states z before (IsMarkers m (state_of before)) (λ e. e.pass ≢ Marker m) (record { opened = refl; scanned = refl; moments = λ w k. k })
    (λ xs e legal may other h.
    let one = not_marker (state_of xs) m e.pass e.act other in
    record { opened = one.opened ∙ h.opened; scanned = one.scanned ∙ h.scanned; moments = λ w k. one.moments w (h.moments w k) }) during legal all
