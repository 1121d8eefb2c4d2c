use Rattle.std.proofs.Common.{ap, ◌∙◌, List}
use Rattle.world_model.specs.Histories.{after}
use Rattle.heap_plain.specs.Types.{Entry}
use Rattle.engine_tests.proofs.Opened.{closed_by_slice, same_by_begin, same_by_commit, same_by_sweep}
use Rattle.engine_tests.proofs.pointers.nothing_removed.Goals as goal

pub loop-n-init : goal.loop-n-init
loop-n-init g c = record { closed = same_by_begin c.begin.ensures.entries ∙ c.requires.closed }

pub loop-n-preserved : goal.loop-n-preserved
loop-n-preserved g c = record { closed = closed_by_slice c.mark.ensures.entries c.loop-n.invariant.closed }

pub returns : goal.returns
returns g c =
    record {
      closed = ap (λ (h : List Entry). (after h).opened) c.left.ensures.same ∙ same_by_sweep c.sweep.ensures.entries ∙ same_by_commit c.commit.ensures.entries
          ∙ closed_by_slice c.mark-2.ensures.entries c.loop-n.invariant.closed;
    }
