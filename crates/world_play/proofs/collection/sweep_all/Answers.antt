use Rattle.std.proofs.Common.{◌≡◌, ℕ, ◌⊎◌, inl, inr, ◌∙◌}
use Rattle.world_play.proofs.Collecting.{finds_more, finds_all, finds_less, finds_some}
use Rattle.world_play.proofs.Streams.{err_holds}
use Rattle.world_play.proofs.collection.sweep_all.Goals as goal

-- the buffer is full where it has so many names
within : (looked found room budget most : ℕ) → (looked ≡ budget) ⊎ (found ≡ room) → room ≡ most → (looked ≡ budget) ⊎ (found ≡ most)
within looked found room budget most (inl e) is = inl e
within looked found room budget most (inr e) is = inr (e ∙ is)

pub sweeps-preserved : goal.sweeps-preserved
sweeps-preserved g c =
    let why = within _ _ _ _ _ (c.sweep-swept.ensures.more c.in-More.is) c.sweeps.invariant.room in
    rw c.in_ok-extend_from_slice.ensures.items (record {
      on = finds_more _ _ _ _ _ _ _ _ c.sweeps.invariant.on c.sweep-swept.ensures.entries c.in-More.is why;
      held = λ lane r h. c.sweep-swept.ensures.held lane r (c.sweeps.invariant.held lane r h);
      room = c.sweep-swept.auto.found ∙ c.sweeps.invariant.room;
    })

pub sweeps-smaller : goal.sweeps-smaller
sweeps-smaller g c = finds_less _ _ _ _ _ _ c.sweep-swept.ensures.entries c.in-More.is (within _ _ _ _ _ (c.sweep-swept.ensures.more c.in-More.is) c.sweeps.invariant.room) c.requires.some

pub returns-in_default : goal.returns-in_default
returns-in_default g c = rw c.in_ok-extend_from_slice.ensures.items (record {
  finds = finds_all _ _ _ _ _ _ _ _ c.sweeps.invariant.on c.sweep-swept.ensures.entries c.in_default.not-More;
  some = tt;
  held = λ lane r h. c.sweep-swept.ensures.held lane r (c.sweeps.invariant.held lane r h);
})

pub returns-in_err-extend_from_slice-clause-some : goal.returns-in_err-extend_from_slice-clause-some
returns-in_err-extend_from_slice-clause-some g c =
    err_holds _ _
    (finds_some _ _ _ _ _ _ _ _ c.sweeps.invariant.on c.sweep-swept.ensures.entries
    (λ more. within _ _ _ _ _ (c.sweep-swept.ensures.more more) c.sweeps.invariant.room))
