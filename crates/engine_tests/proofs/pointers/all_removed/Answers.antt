use Rattle.std.proofs.Common.{◌∙◌}
use Rattle.engine_tests.proofs.Opened.{in_level_frame, opens_alone, same_by_set_strong}
use Rattle.engine_tests.proofs.pointers.all_removed.Goals as goal

pub set_strong-requires-clause-frame : goal.set_strong-requires-clause-frame
set_strong-requires-clause-frame g c = in_level_frame _ (opens_alone c.open_frame.ensures.entries c.requires.closed)

pub close_frame-requires : goal.close_frame-requires
close_frame-requires g c = record { frame = in_level_frame _ (same_by_set_strong c.set_strong.ensures.entries ∙ opens_alone c.open_frame.ensures.entries c.requires.closed) }
