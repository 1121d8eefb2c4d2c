use Rattle.std.proofs.Common.{◌∙◌}
use Rattle.engine_tests.proofs.Opened.{in_single_frame, opens_alone, closes_alone, same_by_create, same_by_weak, same_by_resolve}
use Rattle.engine_tests.proofs.pointers.weakly_made.Goals as goal

pub create-requires-clause-frame : goal.create-requires-clause-frame
create-requires-clause-frame g c = in_single_frame _ (opens_alone c.open_frame.ensures.entries c.requires.closed)

pub weak_of-requires-clause-frame : goal.weak_of-requires-clause-frame
weak_of-requires-clause-frame g c = in_single_frame _ (same_by_create _ _ _ c.create.ensures.entries ∙ opens_alone c.open_frame.ensures.entries c.requires.closed)

pub resolve-requires : goal.resolve-requires
resolve-requires g c = record {
  frame = in_single_frame _ (same_by_weak _ _ c.weak_of.ensures.entries ∙ same_by_create _ _ _ c.create.ensures.entries ∙ opens_alone c.open_frame.ensures.entries c.requires.closed);
}

pub none_gives-requires-clause-opened : goal.none_gives-requires-clause-opened
none_gives-requires-clause-opened g c =
    same_by_resolve c.resolve.ensures.entries ∙ same_by_weak _ _ c.weak_of.ensures.entries ∙ same_by_create _ _ _ c.create.ensures.entries
    ∙ opens_alone c.open_frame.ensures.entries c.requires.closed

pub returns : goal.returns
returns g c = record { closed = closes_alone c.close_frame.ensures.entries c.in_ok-none_gives.ensures.opened }
