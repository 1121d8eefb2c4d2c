use Rattle.std.proofs.Common.{◌∙◌}
use Rattle.engine_tests.proofs.Opened.{same_by_root, same_by_garbage, same_by_valid}
use Rattle.engine_tests.proofs.cells.take.Goals as goal

pub returns-in-Root-clause-opened : goal.returns-in-Root-clause-opened
returns-in-Root-clause-opened g c = same_by_root c.set_root.ensures.entries ∙ c.requires.opened

pub returns-in-Garbage-clause-opened : goal.returns-in-Garbage-clause-opened
returns-in-Garbage-clause-opened g c = same_by_garbage c.mark_garbage.ensures.entries ∙ c.requires.opened

pub returns-in-Valid-clause-opened : goal.returns-in-Valid-clause-opened
returns-in-Valid-clause-opened g c = same_by_valid c.is_valid.ensures.entries ∙ c.requires.opened
