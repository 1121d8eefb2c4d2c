use Rattle.std.proofs.Common.{ap, ◌∙◌, List}
use Rattle.world_model.specs.Histories.{after}
use Rattle.heap_plain.specs.Types.{Entry}
use Rattle.engine_tests.proofs.Opened.{same_by_read_plain}
use Rattle.engine_tests.proofs.cells.get_number.Goals as goal

pub returns-clause-opened : goal.returns-clause-opened
returns-clause-opened g c = same_by_read_plain c.read_plain.ensures.entries ∙ ap (λ (h : List Entry). (after h).opened) c.kind_of-kind.ensures.same ∙ c.requires.opened
