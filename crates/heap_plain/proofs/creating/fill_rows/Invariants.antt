use Rattle.heap_plain.specs.Filling.{RowsFilled}
use Rattle.heap_plain.specs.Stocked.{popped}
use Rattle.heap_plain.proofs.creating.fill_rows.Given as goal

abbrev pub invariant-loop-k : goal.invariant-loop-k
invariant-loop-k g l = RowsFilled l.fn.cells.items l.cells.items (popped l.free.free) l.k l.slots l.value
