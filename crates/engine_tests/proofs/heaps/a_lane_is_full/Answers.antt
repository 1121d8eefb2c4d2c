use Rattle.std.proofs.Common.{ap, ◌∙◌, ◌∷◌, List}
use Rattle.world_model.specs.Histories.{after}
use Rattle.heap_plain.specs.Types.{Lane, Entry}
use Rattle.engine_tests.proofs.Opened.{in_frame, opened_by_frame, same_by_create}
use Rattle.engine_tests.proofs.heaps.a_lane_is_full.Goals as goal

pub create-requires-3-clause-frame : goal.create-requires-3-clause-frame
create-requires-3-clause-frame g c =
    let empty = ap (λ (h : List Entry). Lane 0 ∷ (after h).opened) c.in_ok-heap.ensures.empty in
    in_frame _ (same_by_create _ _ _ c.create-2.ensures.entries ∙ same_by_create _ _ _ c.create.ensures.entries ∙ opened_by_frame c.open_frame.ensures.entries ∙ empty)
