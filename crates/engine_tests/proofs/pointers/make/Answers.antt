use Rattle.std.proofs.Common.{◌∙◌}
use Rattle.engine_tests.proofs.Opened.{in_frame, same_by_create, same_by_set_strong}
use Rattle.engine_tests.proofs.pointers.make.Goals as goal

pub set_strong-requires-clause-frame : goal.set_strong-requires-clause-frame
set_strong-requires-clause-frame g c = in_frame _ (same_by_create _ _ _ c.create.ensures.entries ∙ c.requires.opened)

pub returns : goal.returns
returns g c = record { opened = same_by_set_strong c.set_strong.ensures.entries ∙ same_by_create _ _ _ c.create.ensures.entries ∙ c.requires.opened }
