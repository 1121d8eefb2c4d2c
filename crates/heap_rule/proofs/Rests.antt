-- A lane with nothing under way may have any frame that takes nothing apart.
use Rattle.std.proofs.Common.{◌≡◌, ◌≢◌, ℕ, suc, sym, ap, ◌∙◌, inl, inr, ⊎_elim, Bool, true, false, List, [], map, Option, Some, None}
use Rattle.world_model.specs.NameLists as names
use Rattle.world_model.specs.NameLists.{begins_with}
use Rattle.world_model.specs.State.{Frame, no_frame}
use Rattle.mark_core.proofs.Tools.{at_set}
use Rattle.heap_rule.specs.Types.{Name, Phase}
use Rattle.heap_rule.specs.Units.{first_of}
use Rattle.heap_rule.specs.Items.{Spot, Linked, UnitsLinked}
use Rattle.heap_rule.specs.Loosening.{LoosensShown}
use Rattle.heap_rule.specs.Licences.{LanesLicensed}

module _ (l : ℕ) (frames : ℕ → Frame) where
  pub licensed_rest : (hand : ℕ → Option ℕ) (owes : ℕ → Bool) → hand l ≡ None → owes l ≡ false → LanesLicensed hand owes (λ j. (frames j).shaded)
      → LanesLicensed hand owes (λ j. (names.set_at frames l no_frame j).shaded)
  licensed_rest hand owes empty clear h = record {
    hands = λ j u is. at_set (λ (f : Frame). f.shaded ≡ true) frames l no_frame j (λ same. let wrong : None ≡ Some u = sym (rw same empty) ∙ is in absurd cc) (λ off. h.hands j u is);
    owing = λ j is. at_set (λ (f : Frame). f.shaded ≡ true) frames l no_frame j (λ same. let wrong : false ≡ true = sym (rw same clear) ∙ is in absurd cc) (λ off. h.owing j is);
  }

  module _ (loose : ℕ → Option ℕ) (none : (i : ℕ) → loose l ≡ Some i → ⊥) where
    pub units_rest : (index : Name → ℕ) (next : ℕ → ℕ) (unit : Name → List Name) → UnitsLinked index next unit loose (λ j. (frames j).broken)
        → UnitsLinked index next unit loose (λ j. (names.set_at frames l no_frame j).broken)
    units_rest index next unit h n is = ⊎_elim (λ a. inl a)
        (λ (t : (j : ℕ) × (loose n.lane ≡ Some j) × (first_of (frames n.lane).broken ≡ n) × Linked next (suc j) (map index (unit n))). inr (
          t.0,
          t.1,
          at_set (λ (f : Frame). first_of f.broken ≡ n) frames l no_frame n.lane (λ same. absurd (none t.0 (ap loose (sym same) ∙ t.1))) (λ off. t.2),
          t.3,
        )) (h n is)

    pub loosens_rest : (phase : Phase) (opened opened_now : ℕ → Bool) (spot : ℕ → Spot) (living : Name → Bool) (unit : Name → List Name) (prepared : ℕ → Option ℕ)
        → ((j i : ℕ) → prepared j ≡ Some i → opened j ≡ true → opened_now j ≡ true) → ((j i : ℕ) → loose j ≡ Some i → opened j ≡ true → opened_now j ≡ true)
        → LoosensShown phase opened spot living unit (λ j. (frames j).broken) prepared loose
        → LoosensShown phase opened_now spot living unit (λ j. (names.set_at frames l no_frame j).broken) prepared loose
    loosens_rest phase opened opened_now spot living unit prepared still still_loose h = record {
      prepares = λ j i is. let was = h.prepares j i is in
          (was.0, record { open_now = still j i is was.1.open_now; unmarked = was.1.unmarked; item = was.1.item; lives = was.1.lives; own = was.1.own }, was.2);
      leaves = λ j i is. let was = h.leaves j i is in (
        was.0,
        record { open_now = still_loose j i is was.1.open_now; unmarked = was.1.unmarked; item = was.1.item; lives = was.1.lives; own = was.1.own },
        was.2,
        at_set (λ (f : Frame). f.broken ≢ []) frames l no_frame j (λ same. absurd (none i (ap loose (sym same) ∙ is))) (λ off. was.3),
      );
    }
