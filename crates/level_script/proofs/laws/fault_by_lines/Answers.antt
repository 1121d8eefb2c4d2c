use Rattle.level_script.proofs.Following.{fault_by_lines_holds}
use Rattle.level_script.proofs.laws.fault_by_lines.Goals as goal

pub returns : goal.returns
returns c = fault_by_lines_holds
