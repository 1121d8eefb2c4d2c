use Rattle.std.proofs.Common.{◌+◌, ap, ◌∙◌, sym, arith, add-one}
use Rattle.heap_plain.specs.Parts.{next_at}
use Rattle.heap_plain.specs.Listing.{chained}
use Rattle.heap_plain.proofs.Shadings.{shades_len, shades_join, unit_more, row_unit, unit_row}
use Rattle.heap_plain.proofs.scanning.shade_unit.Goals as goal

pub shade_row-requires-clause-heads : goal.shade_row-requires-clause-heads
shade_row-requires-clause-heads c i = omega (arith, c.requires.heads i, shades_len c.loop-k.invariant.shades)

pub loop-k-preserved : goal.loop-k-preserved
loop-k-preserved c =
    let is = c.loop-k.invariant.index in
    record {
      index = ap (next_at c.args.next.now) is ∙ sym (ap (chained c.args.next.now c.args.head) (add-one c.loop-k.k));
      shades = shades_join (λ t h. unit_more _ _ _ _ _ c.loop-k.k (c.loop-k.k + 1) t (omega arith) h) (λ t h. row_unit _ _ _ _ _ c.loop-k.index c.loop-k.k (c.loop-k.k + 1) t (omega arith) is h)
          (λ t h. unit_row _ _ _ _ _ c.loop-k.index c.loop-k.k t is h) c.loop-k.invariant.shades c.shade_row.ensures;
    }
