use Rattle.std.proofs.Common.{◌≡◌, drop}
use Rattle.world_play.specs.Variables.{standing, without_members}
use Rattle.world_play.proofs.units.unbind_members.Given as goal

abbrev pub invariant-loop-i : goal.invariant-loop-i
invariant-loop-i l =
    ((standing l.variables).counts ≡ (standing l.fn.variables).counts)
    × (without_members (standing l.variables) l.lane (drop l.i l.members) ≡ without_members (standing l.fn.variables) l.lane l.members)
