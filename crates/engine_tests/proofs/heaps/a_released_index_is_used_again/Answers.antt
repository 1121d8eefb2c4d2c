use Rattle.std.proofs.Common.{ap, ◌∙◌, ◌∷◌, List}
use Rattle.std.specs.List.{list_any}
use Rattle.world_model.specs.NameLists.{same_pass}
use Rattle.heap_plain.specs.Types.{Lane, Pass}
use Rattle.engine_tests.proofs.Opened.{in_frame, opened_by_frame, same_by_sweep, same_by_purge}
use Rattle.engine_tests.proofs.heaps.a_released_index_is_used_again.Goals as goal

pub open_frame-requires-clause-closed : goal.open_frame-requires-clause-closed
open_frame-requires-clause-closed g c =
    ap (list_any (same_pass (Lane 0))) (same_by_purge c.purge.ensures.entries ∙ same_by_sweep c.sweep.ensures.entries ∙ c.in_ok-heap.ensures)

pub create-requires-clause-frame : goal.create-requires-clause-frame
create-requires-clause-frame g c =
    in_frame _ (opened_by_frame c.open_frame.ensures.entries
    ∙ ap (λ (passes : List Pass). Lane 0 ∷ passes) (same_by_purge c.purge.ensures.entries ∙ same_by_sweep c.sweep.ensures.entries ∙ c.in_ok-heap.ensures))
