use Rattle.std.proofs.Common.{refl, ap, ◌∙◌, List}
use Rattle.world_model.specs.Histories.{after}
use Rattle.heap_plain.specs.Types.{Entry}
use Rattle.engine_tests.proofs.Opened.{closed_by_frame, closed_by_slice, same_by_begin, same_by_commit, same_by_sweep, same_by_purge}
use Rattle.engine_tests.proofs.cells.collect.Goals as goal

pub returns : goal.returns
returns g c =
    let closed = same_by_begin c.begin.ensures.entries ∙ closed_by_frame c.close_frame.ensures.entries in
    record {
      closed =
          same_by_purge c.purge.ensures.entries ∙ ap (λ (h : List Entry). (after h).opened) c.left-removed.ensures.same
          ∙ same_by_sweep c.sweep.ensures.entries ∙ same_by_commit c.commit.ensures.entries
          ∙ closed_by_slice c.mark-marked.ensures.entries (rw (closed, c.requires.opened) refl);
    }
