use Rattle.std.proofs.Common.{arith}
use Rattle.heap_plain.proofs.Shadings.{shades_len, shades_join, row_more}
use Rattle.heap_plain.proofs.scanning.shade_row.Goals as goal

pub shade-requires-clause-heads : goal.shade-requires-clause-heads
shade-requires-clause-heads c i = omega (arith, c.requires.heads i, shades_len c.loop-slot.invariant)

pub loop-slot-preserved : goal.loop-slot-preserved
loop-slot-preserved c =
    shades_join (λ t h. (h.0, omega (arith, h.1), h.2)) (λ t h. (c.loop-slot.slot, omega arith, h))
    (row_more c.args.targets.now c.args.row c.loop-slot.slot) c.loop-slot.invariant c.shade.ensures

pub shade-requires-clause-target : goal.shade-requires-clause-target
shade-requires-clause-target c t at = c.requires.target t (c.loop-slot.slot, c.loop-slot-test.true, at)
