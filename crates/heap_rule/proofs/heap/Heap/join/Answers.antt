use Rattle.std.proofs.Common.{◌≡◌, ap, sym, ◌∙◌}
use Rattle.word_layout.proofs.Apart.{places_fit}
use Rattle.heap_rule.specs.Types.part
use Rattle.heap_rule.specs.Seats.{SeatIs}
use Rattle.heap_rule.specs.Seating.{MayJoin}
use Rattle.heap_rule.proofs.Joins.{joins}
use Rattle.heap_rule.proofs.heap.Heap.join.Goals as goal

pub join_seat-requires : goal.join_seat-requires
join_seat-requires g c =
    let z = g.S.Shape.sizes in
    let s = c.seat.inside.seat in
    let o = c.other.inside.seat in
    let knows : s.me.0 ≡ c.args.seat.now.view = ap (λ (n : SeatIs). n.view) c.seat.view_is in
    let others : o.me.0 ≡ c.args.other.view = ap (λ (n : SeatIs). n.view) c.other.view_is in
    let may : MayJoin s.me.0 o.me.0 = rw (knows, others) c.requires.closed in (
      ap (λ (n : SeatIs). n.heap) c.seat.view_is ∙ (c.requires.heap ∙ sym c.self.view_is),
      ap (λ (n : SeatIs). n.heap) c.other.view_is ∙ (c.requires.other ∙ sym c.self.view_is),
      c.other.invariant,
      rw c.self.invariant.0 (places_fit z part.Gate tt),
      joins z s.id o.id s.me.0 o.me.0 may,
    )
