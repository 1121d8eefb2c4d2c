use Rattle.std.proofs.Common.{◌≡◌, ◌∷◌, [], All}
use Rattle.world_model.specs.Histories.{after}
use Rattle.heap_plain.specs.Types.{Lane}
use Rattle.heap_plain.specs.Parts.{Holds}
use Rattle.engine_tests.proofs.cells.take_all.Given as goal

abbrev pub invariant-loop-n : goal.invariant-loop-n
invariant-loop-n g l = record { opened : (after l.heap.history).opened ≡ Lane 0 ∷ []; held : All (Holds l.heap 0) l.refs }
