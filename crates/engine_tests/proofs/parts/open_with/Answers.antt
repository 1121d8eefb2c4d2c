use Rattle.std.proofs.Common.{◌∙◌}
use Rattle.engine_tests.proofs.Opened.{in_frame_of, opens_alone, same_by_create}
use Rattle.engine_tests.proofs.parts.open_with.Goals as goal

pub create-requires-clause-frame : goal.create-requires-clause-frame
create-requires-clause-frame g c = in_frame_of _ _ c.requires.lane (opens_alone c.open_frame.ensures.entries c.requires.closed)

pub returns-clause-opened : goal.returns-clause-opened
returns-clause-opened g c = same_by_create _ _ _ c.create.ensures.entries ∙ opens_alone c.open_frame.ensures.entries c.requires.closed
