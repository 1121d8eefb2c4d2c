use Rattle.std.proofs.Common.{◌≡◌, ◌==◌, take, true}
use Rattle.level_script.specs.Names.{all_differ}
use Rattle.level_script.specs.Operands.{vars_of}
use Rattle.level_script.proofs.members.has_twice.Given as goal

abbrev pub invariant-loop-member : goal.invariant-loop-member
invariant-loop-member l = record {
  looked : l.seen ≡ vars_of (take l.member-index l.members);
  differ : all_differ (λ a b. a == b) (vars_of (take l.member-index l.members)) ≡ true;
}
