use Rattle.std.proofs.Common.{◌≡◌, ◌+◌, ◌≤◌, length}
use Rattle.level_script.specs.Lines.{line_words}
use Rattle.level_script.specs.Members.{each_member, are_members}
use Rattle.level_script.proofs.members.read_members.Given as goal

abbrev pub invariant-loop-word : goal.invariant-loop-word
invariant-loop-word l = record {
  counted : l.count + length (line_words l.left) ≡ length (line_words l.rest);
  few : l.count ≤ 1024;
  same : are_members (each_member (line_words l.left)) ≡ are_members (each_member (line_words l.rest));
}

abbrev pub decreases-loop-word : goal.decreases-loop-word
decreases-loop-word l = length (line_words l.left)
