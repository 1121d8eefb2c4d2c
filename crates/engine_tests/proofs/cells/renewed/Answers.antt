use Rattle.std.proofs.Common.{ap, ◌∙◌, ◌∷◌, List}
use Rattle.heap_plain.specs.Types.{Lane, Pass}
use Rattle.engine_tests.proofs.Opened.{opened_by_frame}
use Rattle.engine_tests.proofs.cells.renewed.Goals as goal

pub make-requires : goal.make-requires
make-requires g c = record { opened = opened_by_frame c.open_frame.ensures.entries ∙ ap (λ (passes : List Pass). Lane 0 ∷ passes) c.in_ok-collect.ensures.closed }
