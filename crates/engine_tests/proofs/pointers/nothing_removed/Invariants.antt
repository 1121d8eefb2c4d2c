use Rattle.std.proofs.Common.{◌≡◌, []}
use Rattle.world_model.specs.Histories.{after}
use Rattle.engine_tests.proofs.pointers.nothing_removed.Given as goal

abbrev pub invariant-loop-n : goal.invariant-loop-n
invariant-loop-n g l = record { closed : (after l.heap.history).opened ≡ [] }
