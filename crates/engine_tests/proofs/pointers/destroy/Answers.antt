use Rattle.std.proofs.Common.{ap, ◌∙◌, List}
use Rattle.world_model.specs.Histories.{after}
use Rattle.heap_plain.specs.Types.{Entry}
use Rattle.engine_tests.proofs.Opened.{same_by_sweep, same_by_purge}
use Rattle.engine_tests.proofs.pointers.destroy.Goals as goal

pub returns : goal.returns
returns g c =
    record {
      closed = same_by_purge c.purge.ensures.entries ∙ ap (λ (h : List Entry). (after h).opened) c.left.ensures.same ∙ same_by_sweep c.sweep.ensures.entries ∙ c.requires.closed;
    }
