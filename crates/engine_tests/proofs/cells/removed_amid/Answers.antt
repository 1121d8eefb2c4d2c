use Rattle.std.proofs.Common.{ap, ◌∙◌, ◌∷◌, List}
use Rattle.std.specs.List.{list_any}
use Rattle.world_model.specs.NameLists.{same_pass}
use Rattle.world_model.specs.Histories.{after}
use Rattle.heap_plain.specs.Types.{Lane, Pass, Entry}
use Rattle.engine_tests.proofs.Opened.{opened_by_frame, same_by_begin}
use Rattle.engine_tests.proofs.cells.removed_amid.Goals as goal

pub open_frame-requires-clause-closed : goal.open_frame-requires-clause-closed
open_frame-requires-clause-closed g c =
    let empty = ap (λ (h : List Entry). (after h).opened) c.in_ok-heap.ensures.empty in
    ap (list_any (same_pass (Lane 0))) (same_by_begin c.begin.ensures.entries ∙ empty)

pub make-requires : goal.make-requires
make-requires g c =
    let empty = ap (λ (h : List Entry). (after h).opened) c.in_ok-heap.ensures.empty in
    record { opened = opened_by_frame c.open_frame.ensures.entries ∙ ap (λ (passes : List Pass). Lane 0 ∷ passes) (same_by_begin c.begin.ensures.entries ∙ empty) }
