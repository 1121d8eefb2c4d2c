use Rattle.std.proofs.Common.{◌∙◌}
use Rattle.engine_tests.proofs.Opened.{same_by_get_strong}
use Rattle.engine_tests.proofs.pointers.target.Goals as goal

pub returns-clause-opened : goal.returns-clause-opened
returns-clause-opened g c = same_by_get_strong c.get_strong.ensures.entries ∙ c.requires.opened
