use Rattle.std.proofs.Common.{◌∙◌}
use Rattle.engine_tests.proofs.Opened.{same_by_create}
use Rattle.engine_tests.proofs.cells.make.Goals as goal

pub returns-clause-opened : goal.returns-clause-opened
returns-clause-opened g c = same_by_create _ _ _ c.create.ensures.entries ∙ c.requires.opened
