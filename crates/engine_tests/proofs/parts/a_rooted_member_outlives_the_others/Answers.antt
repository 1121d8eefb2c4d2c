use Rattle.std.proofs.Common.{◌∙◌}
use Rattle.engine_tests.proofs.Opened.{in_frame, same_by_root}
use Rattle.engine_tests.proofs.parts.a_rooted_member_outlives_the_others.Goals as goal

pub dissolve-requires-clause-opened : goal.dissolve-requires-clause-opened
dissolve-requires-clause-opened g c = same_by_root c.set_root.ensures.entries ∙ c.open_with.ensures.opened

pub close_frame-requires : goal.close_frame-requires
close_frame-requires g c = record { frame = in_frame _ c.dissolve-2.ensures.opened }
