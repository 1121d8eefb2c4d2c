use Rattle.std.proofs.Common.{◌∙◌}
use Rattle.engine_tests.proofs.Opened.{in_frame_of, same_by_dissolve}
use Rattle.engine_tests.proofs.parts.dissolve.Goals as goal

pub dissolve-requires-clause-frame : goal.dissolve-requires-clause-frame
dissolve-requires-clause-frame g c = in_frame_of _ _ c.requires.lane c.requires.opened

pub returns-clause-opened : goal.returns-clause-opened
returns-clause-opened g c = same_by_dissolve _ _ c.dissolve.ensures.entries ∙ c.requires.opened
