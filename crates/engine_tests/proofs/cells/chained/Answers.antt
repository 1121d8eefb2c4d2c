use Rattle.std.proofs.Common.{◌∙◌}
use Rattle.engine_tests.proofs.Opened.{in_level_frame, same_by_root}
use Rattle.engine_tests.proofs.cells.chained.Goals as goal

pub close_frame-requires : goal.close_frame-requires
close_frame-requires g c = record { frame = in_level_frame _ (same_by_root c.set_root.ensures.entries ∙ c.in_ok-first.ensures.opened) }
