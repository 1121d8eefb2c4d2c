use Rattle.std.proofs.Common.{◌∙◌}
use Rattle.engine_tests.proofs.Opened.{same_by_get_strong, same_by_weak, same_by_resolve, same_by_garbage}
use Rattle.engine_tests.proofs.pointers.take.Goals as goal

pub returns-in-Has : goal.returns-in-Has
returns-in-Has g c = record { opened = same_by_get_strong c.get_strong.ensures.entries ∙ c.requires.opened }

pub returns-in_ok-at-in-Draw : goal.returns-in_ok-at-in-Draw
returns-in_ok-at-in-Draw g c = record { opened = same_by_weak _ _ c.weak_of.ensures.entries ∙ c.in_ok-at-in-Draw.ensures.opened }

pub returns-in-Gives : goal.returns-in-Gives
returns-in-Gives g c = record { opened = same_by_resolve c.resolve.ensures.entries ∙ c.requires.opened }

pub returns-in_ok-of-in-Garbage : goal.returns-in_ok-of-in-Garbage
returns-in_ok-of-in-Garbage g c = record { opened = same_by_garbage c.mark_garbage.ensures.entries ∙ c.in_ok-of-in-Garbage.ensures.opened }
