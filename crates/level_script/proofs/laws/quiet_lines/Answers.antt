use Rattle.level_script.proofs.Following.{quiet_lines_hold}
use Rattle.level_script.proofs.laws.quiet_lines.Goals as goal

pub returns : goal.returns
returns c = quiet_lines_hold
