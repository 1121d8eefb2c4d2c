use Rattle.std.proofs.Common.{sym, subst, ap, ◌∙◌}
use Rattle.mark_core.specs.Sets.{members, AreStamps}
use Rattle.mark_core.proofs.Sets.{new_set, new_view}
use Rattle.mark_core.proofs.flags.Flags.new.Goals as goal

pub invariant_of-result : goal.invariant_of-result
invariant_of-result c = subst (AreStamps 1 0) (sym c.in_ok-stamps.ensures) (new_set c.args.bound c.ranges.bound.fits)

pub returns : goal.returns
returns c = ap (members 1) c.in_ok-stamps.ensures ∙ new_view c.args.bound
