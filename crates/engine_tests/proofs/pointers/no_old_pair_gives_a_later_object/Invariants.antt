use Rattle.std.proofs.Common.{◌≡◌, []}
use Rattle.world_model.specs.Histories.{after}
use Rattle.engine_tests.proofs.pointers.no_old_pair_gives_a_later_object.Given as goal

abbrev pub invariant-loop-count : goal.invariant-loop-count
invariant-loop-count g l = record { closed : (after l.heap.history).opened ≡ [] }
