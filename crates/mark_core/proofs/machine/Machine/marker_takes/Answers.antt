use Rattle.std.proofs.Common.{◌≡◌, ℕ, ◌+◌, ◌*◌, ap, ◌∙◌, arith, cond, refl}
use Rattle.mark_core.specs.Changes.{set_at}
use Rattle.mark_core.specs.Machine.{Core, Place, InRow, OnStack, same_place}
use Rattle.mark_core.specs.Shown.{state}
use Rattle.mark_core.proofs.Cursors.{takes_below, takes_none, takes_more, takes_all}
use Rattle.mark_core.proofs.machine.Machine.marker_takes.Goals as goal

pub loop-i-init : goal.loop-i-init
loop-i-init c = record {
  place = ap (λ (f : ℕ → Place). record (state c.args.self.now) { place = f }) (takes_none c.args.m c.args.row (64 * c.args.word) (state c.args.self.now).place);
  shape = refl;
}

pub loop-i-preserved : goal.loop-i-preserved
loop-i-preserved c =
    let first = 64 * c.args.word in
    let was = c.loop-i.invariant.place in
    let taken : Core → Core = λ x. record x { place = cond (same_place (x.place (first + c.loop-i.i)) (InRow c.args.row)) (set_at x.place (first + c.loop-i.i) (OnStack c.args.m)) x.place } in
    record {
      place =
          c.take_bit.ensures.state
          ∙ (ap taken was
          ∙ ap (λ (f : ℕ → Place). record (state c.args.self.now) { place = f })
          (takes_more c.args.m c.args.row first c.loop-i.i (state c.args.self.now).place));
      shape = c.take_bit.ensures.shape ∙ c.loop-i.invariant.shape;
    }

pub returns-clause-state : goal.returns-clause-state
returns-clause-state c =
    let end : c.loop-i.i ≡ 64 = omega arith in
    c.loop-i.invariant.place
    ∙ (ap (λ (n : ℕ). record (state c.args.self.now) { place = takes_below c.args.m c.args.row (64 * c.args.word) n (state c.args.self.now).place }) end
    ∙ ap (λ (f : ℕ → Place). record (state c.args.self.now) { place = f }) (takes_all c.args.m c.args.row c.args.word (state c.args.self.now).place))
