use Rattle.level_script.proofs.Binding.{weak_by_lines_holds}
use Rattle.level_script.proofs.laws.weak_by_lines.Goals as goal

pub returns : goal.returns
returns c = weak_by_lines_holds
