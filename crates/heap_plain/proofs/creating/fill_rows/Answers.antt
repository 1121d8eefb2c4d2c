use Rattle.std.proofs.Common.{arith}
use Rattle.heap_plain.proofs.Fillings.{RowsFilled-more}
use Rattle.heap_plain.proofs.creating.fill_rows.Goals as goal

pub fill-requires : goal.fill-requires
fill-requires g c = rw c.peek.ensures (omega (arith, c.requires.rows c.loop-k.k c.loop-k-test.true, c.loop-k.invariant.len))

pub loop-k-preserved : goal.loop-k-preserved
loop-k-preserved g c = RowsFilled-more _ _ _ _ _ _ _ _ c.loop-k.invariant c.peek.ensures c.fill.ensures
