use Rattle.std.proofs.Common.{◌∙◌}
use Rattle.engine_tests.proofs.Opened.{same_by_begin}
use Rattle.engine_tests.proofs.pointers.begin.Goals as goal

pub returns : goal.returns
returns g c = record { closed = same_by_begin c.begin.ensures.entries ∙ c.requires.closed }
