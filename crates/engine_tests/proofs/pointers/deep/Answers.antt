use Rattle.std.proofs.Common.{◌∙◌}
use Rattle.engine_tests.proofs.Opened.{in_level_frame, closes_alone, same_by_set_strong}
use Rattle.engine_tests.proofs.pointers.deep.Goals as goal

pub close_frame-requires : goal.close_frame-requires
close_frame-requires g c = record { frame = in_level_frame _ (same_by_set_strong c.set_strong.ensures.entries ∙ c.in_ok-first.ensures.opened) }

pub returns : goal.returns
returns g c = closes_alone c.close_frame.ensures.entries (same_by_set_strong c.set_strong.ensures.entries ∙ c.in_ok-first.ensures.opened)
