use Rattle.std.proofs.Common.{ap, List}
use Rattle.world_model.specs.Histories.{after}
use Rattle.heap_plain.specs.Types.{Entry}
use Rattle.engine_tests.proofs.pointers.empty.Goals as goal

pub returns : goal.returns
returns g c = ap (λ (h : List Entry). (after h).opened) c.in_ok-heap.ensures.empty
