use Rattle.level_script.proofs.Binding.{bound_by_lines_holds}
use Rattle.level_script.proofs.laws.bound_by_lines.Goals as goal

pub returns : goal.returns
returns c = bound_by_lines_holds
