use Rattle.std.proofs.Common.{arith}
use Rattle.heap_plain.proofs.Fillings.{row_end}
use Rattle.heap_plain.proofs.Shadings.{shades_len, shades_stay, shades_join, strong_more}
use Rattle.heap_plain.proofs.scanning.shade_strong.Goals as goal

pub loop-lane-init : goal.loop-lane-init
loop-lane-init c = shades_stay c.requires.fits (λ t h. absurd (omega (arith, h.2)))

pub shade_row-requires : goal.shade_row-requires
shade_row-requires c = record {
  row = omega (arith, row_end c.args.each c.loop-lane.lane c.args.lanes c.loop-lane-test.true, c.requires.rows);
  target = λ t h. c.requires.target t (c.loop-lane.lane, h.0, c.loop-lane-test.true, h.1, h.2);
  heads = λ i. omega (arith, c.requires.heads i, shades_len c.loop-lane.invariant);
  named = λ t h. c.requires.named t (c.loop-lane.lane, h.0, c.loop-lane-test.true, h.1, h.2);
  fits = c.loop-lane.invariant.fits;
}

pub loop-lane-preserved : goal.loop-lane-preserved
loop-lane-preserved c =
    shades_join (λ t h. (h.0, h.1, omega (arith, h.2), h.3, h.4)) (λ t h. (c.loop-lane.lane, h.0, omega arith, h.1, h.2))
    (λ t h. strong_more c.args.strong.now c.args.each c.loop-lane.lane t h) c.loop-lane.invariant c.shade_row.ensures
