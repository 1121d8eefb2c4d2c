use Rattle.std.proofs.Common.{◌∙◌}
use Rattle.engine_tests.proofs.Opened.{in_other_frame, opens_other, closes_other, same_by_create, same_by_set_strong, same_by_get_strong, same_by_weak}
use Rattle.engine_tests.proofs.pointers.other_lane.Goals as goal

pub create-requires-clause-frame : goal.create-requires-clause-frame
create-requires-clause-frame g c = in_other_frame _ (opens_other c.open_frame.ensures.entries c.requires.closed)

pub set_strong-requires-clause-frame : goal.set_strong-requires-clause-frame
set_strong-requires-clause-frame g c = in_other_frame _ (same_by_create _ _ _ c.create.ensures.entries ∙ opens_other c.open_frame.ensures.entries c.requires.closed)

pub weak_of-requires-clause-frame : goal.weak_of-requires-clause-frame
weak_of-requires-clause-frame g c =
    in_other_frame _ (same_by_set_strong c.set_strong.ensures.entries ∙ same_by_create _ _ _ c.create.ensures.entries ∙ opens_other c.open_frame.ensures.entries c.requires.closed)

pub get_strong-requires-clause-frame : goal.get_strong-requires-clause-frame
get_strong-requires-clause-frame g c =
    in_other_frame _
    (same_by_weak _ _ c.weak_of.ensures.entries ∙ same_by_set_strong c.set_strong.ensures.entries ∙ same_by_create _ _ _ c.create.ensures.entries ∙ opens_other c.open_frame.ensures.entries c.requires.closed)

pub close_frame-requires : goal.close_frame-requires
close_frame-requires g c =
    record {
      frame = in_other_frame _
          (same_by_get_strong c.get_strong.ensures.entries ∙ same_by_weak _ _ c.weak_of.ensures.entries ∙ same_by_set_strong c.set_strong.ensures.entries ∙ same_by_create _ _ _ c.create.ensures.entries ∙ opens_other c.open_frame.ensures.entries c.requires.closed);
    }

pub returns : goal.returns
returns g c =
    record {
      closed = closes_other c.close_frame.ensures.entries
          (same_by_get_strong c.get_strong.ensures.entries ∙ same_by_weak _ _ c.weak_of.ensures.entries ∙ same_by_set_strong c.set_strong.ensures.entries ∙ same_by_create _ _ _ c.create.ensures.entries ∙ opens_other c.open_frame.ensures.entries c.requires.closed);
    }
