use Rattle.std.proofs.Common.{ap, sym, ◌∙◌}
use Rattle.word_layout.proofs.Apart.{places_fit}
use Rattle.heap_rule.specs.Types.{PassSet}
use Rattle.heap_rule.specs.Types.part
use Rattle.heap_rule.specs.Seats.{SeatIs}
use Rattle.heap_rule.specs.Seating.{dealt}
use Rattle.heap_rule.proofs.Splits.{splits}
use Rattle.heap_rule.proofs.heap.Heap.cut.Goals as goal

pub split_seat-new-requires : goal.split_seat-new-requires
split_seat-new-requires g c =
    let z = g.S.Shape.sizes in
    let s = c.seat.inside.seat in (
      ap (λ (n : SeatIs). n.heap) c.seat.view_is ∙ (c.requires.heap ∙ sym c.self.view_is),
      rw c.self.invariant.0 (places_fit z part.Gate tt),
      splits z g.D.Deals.those s.id s.me.0,
    )

pub returns-clause-dealt : goal.returns-clause-dealt
returns-clause-dealt g c =
    let known = ap (λ (n : SeatIs). n.view) c.seat.view_is in
    ap (λ m. m.0) c.split_seat-new.ensures.4 ∙ (ap (λ (those : PassSet). dealt those c.seat.inside.seat.me.0) c.requires.set ∙ ap (dealt c.args.set) known)
