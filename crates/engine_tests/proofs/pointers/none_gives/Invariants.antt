use Rattle.std.proofs.Common.{◌≡◌, ◌∷◌, []}
use Rattle.world_model.specs.Histories.{after}
use Rattle.heap_plain.specs.Types.{Lane}
use Rattle.engine_tests.proofs.pointers.none_gives.Given as goal

abbrev pub invariant-loop-n : goal.invariant-loop-n
invariant-loop-n g l = record { opened : (after l.heap.history).opened ≡ Lane 0 ∷ [] }
