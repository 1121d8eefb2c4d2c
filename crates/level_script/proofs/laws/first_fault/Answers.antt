use Rattle.level_script.proofs.First.{first_fault_holds}
use Rattle.level_script.proofs.laws.first_fault.Goals as goal

pub returns : goal.returns
returns c = first_fault_holds
