use Rattle.std.proofs.Common.{◌∙◌}
use Rattle.engine_tests.proofs.Opened.{closed_by_slice, same_by_commit}
use Rattle.engine_tests.proofs.pointers.commit.Goals as goal

pub returns : goal.returns
returns g c = record { closed = same_by_commit c.commit.ensures.entries ∙ closed_by_slice c.mark.ensures.entries c.requires.closed }
