use Rattle.std.proofs.Common.{◌∙◌}
use Rattle.engine_tests.proofs.Opened.{in_frame, closes_alone, closed_by_slice, same_by_begin, same_by_commit, same_by_root}
use Rattle.engine_tests.proofs.parts.a_unit_is_taken_apart_unless_a_collection_marks.Goals as goal

pub close_frame-requires : goal.close_frame-requires
close_frame-requires g c = record { frame = in_frame _ (same_by_root c.set_root.ensures.entries ∙ c.open_with.ensures.opened) }

pub open_with-requires-2-clause-closed : goal.open_with-requires-2-clause-closed
open_with-requires-2-clause-closed g c = same_by_begin c.begin.ensures.entries ∙ closes_alone c.close_frame.ensures.entries (same_by_root c.set_root.ensures.entries ∙ c.open_with.ensures.opened)

pub close_frame-requires-2 : goal.close_frame-requires-2
close_frame-requires-2 g c = record { frame = in_frame _ c.dissolve.ensures.opened }

pub open_with-requires-3-clause-closed : goal.open_with-requires-3-clause-closed
open_with-requires-3-clause-closed g c = same_by_commit c.commit.ensures.entries ∙ closed_by_slice c.mark.ensures.entries (closes_alone c.close_frame-2.ensures.entries c.dissolve.ensures.opened)
