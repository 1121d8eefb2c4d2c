use Rattle.std.proofs.Common.{sym, ◌∙◌}
use Rattle.heap_plain.proofs.Listings.{unit_fits, queues_unit, queues_none}
use Rattle.heap_plain.proofs.listing.list_units.Goals.{then-begins, else-begins}
use Rattle.heap_plain.proofs.listing.list_units.Goals as goal

pub queue_unit-requires-clause-room : goal.queue_unit-requires-clause-room
queue_unit-requires-clause-room c =
    unit_fits c.args.lives.now c.args.firsts.now c.args.sizes.now c.args.next.now c.args.from c.loop-k.k c.args.queue.now
    c.requires.can c.loop-k.invariant c.loop-k-test.true (sym c.begins.ensures ∙ c.if-begins.true)

pub loop-k-preserved : goal.loop-k-preserved
loop-k-preserved c = elim c.if-begins.branch [
  | then-begins w ↦ rw w.queue-is
      (queues_unit c.args.lives.now c.args.firsts.now c.args.sizes.now c.args.next.now c.args.from c.loop-k.k c.args.queue.now
      c.loop-k.invariant (sym c.begins.ensures ∙ w.if-begins.true) w.queue_unit.ensures)
  | else-begins w ↦ rw w.queue-is
      (queues_none c.args.lives.now c.args.firsts.now c.args.sizes.now c.args.next.now c.args.from c.loop-k.k c.args.queue.now
      c.loop-k.invariant (sym c.begins.ensures ∙ w.if-begins.false))
]
