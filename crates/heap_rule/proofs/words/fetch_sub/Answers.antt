use Rattle.std.proofs.Common.{◌+◌, ◌-◌, ◌%◌, ◌^◌, ap, sym, ◌∙◌}
use Rattle.word_layout.specs.Places.{place}
use Rattle.word_layout.proofs.Apart.{places_fit}
use Rattle.heap_rule.specs.Seats.{SeatIs}
use Rattle.heap_rule.specs.Tells.{Tells}
use Rattle.heap_rule.proofs.Seated.{step_may}
use Rattle.heap_rule.proofs.words.fetch_sub.Goals as goal

pub fetch_sub-requires : goal.fetch_sub-requires
fetch_sub-requires g c =
    let z = g.S.Shape.sizes in
    let s = c.seat.inside.seat in (
      ap (λ (n : SeatIs). n.heap) c.seat.view_is ∙ (c.requires.seat ∙ sym c.heap.view_is),
      rw (c.word_of.ensures, c.heap.invariant.0) (places_fit z c.args.part c.requires.part),
      step_may z s.table_id c.heap.inside.table.shared.table_id.slots s.id s.me.0 s.me.1 c.args.seat.now c.word_of.result (place z c.args.part) (λ n. (n + (2 ^ 64 - c.args.k)) % 2 ^ 64)
          g.A.Asks.ask c.args.ask.now (λ a v found w. Tells z a c.args.k v found w) c.seat.view_is c.heap.invariant.1 c.seat.invariant c.word_of.ensures c.requires.ask c.requires.rule,
    )
