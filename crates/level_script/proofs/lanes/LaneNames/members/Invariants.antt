use Rattle.std.proofs.Common.{◌≡◌, ◌++◌, length, option_map}
use Rattle.level_script.specs.Lanes.{with_vars, members_found}
use Rattle.level_script.proofs.lanes.LaneNames.members.Given as goal

abbrev pub invariant-loop-var : goal.invariant-loop-var
invariant-loop-var l = record {
  lane : with_vars l.rest l.self ≡ with_vars l.words l.fn.self;
  found : option_map (λ ms. l.members.items ++ ms) (members_found l.classes.classes l.self.names l.rest) ≡ members_found l.classes.classes l.fn.self.names l.words;
}

abbrev pub decreases-loop-var : goal.decreases-loop-var
decreases-loop-var l = length l.rest
