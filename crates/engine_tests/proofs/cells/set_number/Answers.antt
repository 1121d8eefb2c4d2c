use Rattle.std.proofs.Common.{ap, ◌∙◌, List}
use Rattle.world_model.specs.Histories.{after}
use Rattle.heap_plain.specs.Types.{Entry}
use Rattle.engine_tests.proofs.Opened.{same_by_write_plain}
use Rattle.engine_tests.proofs.cells.set_number.Goals as goal

pub returns-clause-opened : goal.returns-clause-opened
returns-clause-opened g c = same_by_write_plain c.write_plain.ensures.entries ∙ ap (λ (h : List Entry). (after h).opened) c.kind_of-kind.ensures.same ∙ c.requires.opened
