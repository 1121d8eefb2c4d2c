use Rattle.std.proofs.Common.{refl, ap, ◌∙◌, ◌∷◌, List}
use Rattle.world_model.specs.Histories.{after}
use Rattle.heap_plain.specs.Types.{Lane, Entry}
use Rattle.engine_tests.proofs.Opened.{in_frame, opened_by_frame, closed_by_frame, closed_by_slice, same_by_begin, same_by_commit, same_by_root, same_by_create}
use Rattle.engine_tests.proofs.heaps.gathering.Goals as goal

pub create-requires-2-clause-frame : goal.create-requires-2-clause-frame
create-requires-2-clause-frame g c =
    let empty = ap (λ (h : List Entry). Lane 0 ∷ (after h).opened) c.in_ok-heap.ensures.empty in
    in_frame _ (same_by_root c.set_root.ensures.entries ∙ same_by_create _ _ _ c.create.ensures.entries ∙ opened_by_frame c.open_frame.ensures.entries ∙ empty)

pub create-requires-3-clause-frame : goal.create-requires-3-clause-frame
create-requires-3-clause-frame g c =
    let empty = ap (λ (h : List Entry). Lane 0 ∷ (after h).opened) c.in_ok-heap.ensures.empty in
    in_frame _
    (same_by_create _ _ _ c.create-2.ensures.entries ∙ same_by_root c.set_root.ensures.entries ∙ same_by_create _ _ _ c.create.ensures.entries
    ∙ opened_by_frame c.open_frame.ensures.entries ∙ empty)

pub close_frame-requires : goal.close_frame-requires
close_frame-requires g c =
    let empty = ap (λ (h : List Entry). Lane 0 ∷ (after h).opened) c.in_ok-heap.ensures.empty in
    record {
      frame = in_frame _ (same_by_create _ _ _ c.create-3.ensures.entries ∙ same_by_create _ _ _ c.create-2.ensures.entries ∙ same_by_root c.set_root.ensures.entries
          ∙ same_by_create _ _ _ c.create.ensures.entries ∙ opened_by_frame c.open_frame.ensures.entries ∙ empty);
    }

pub returns : goal.returns
returns g c =
    let opened = same_by_create _ _ _ c.create-3.ensures.entries ∙ same_by_create _ _ _ c.create-2.ensures.entries ∙ same_by_root c.set_root.ensures.entries
    ∙ same_by_create _ _ _ c.create.ensures.entries ∙ opened_by_frame c.open_frame.ensures.entries in
    let closed = same_by_begin c.begin.ensures.entries ∙ closed_by_frame c.close_frame.ensures.entries in
    same_by_commit c.commit.ensures.entries ∙ closed_by_slice c.mark.ensures.entries (rw (closed, opened, c.in_ok-heap.ensures.empty) refl)
