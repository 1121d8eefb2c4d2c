use Rattle.std.proofs.Common.{◌∙◌}
use Rattle.engine_tests.proofs.Opened.{in_frame, same_by_set_strong, same_by_resolve}
use Rattle.engine_tests.proofs.pointers.hold.Goals as goal

pub set_strong-old-requires-clause-frame : goal.set_strong-old-requires-clause-frame
set_strong-old-requires-clause-frame g c = in_frame _ (same_by_resolve c.resolve-to.ensures.entries ∙ c.requires.opened)

pub returns : goal.returns
returns g c = record { opened = same_by_set_strong c.set_strong-old.ensures.entries ∙ same_by_resolve c.resolve-to.ensures.entries ∙ c.requires.opened }
