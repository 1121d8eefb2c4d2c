use Rattle.mark_core.specs.Shown.{state}
use Rattle.mark_core.proofs.Runs.{lawful_same}
use Rattle.mark_core.proofs.Starts.{start_lawful}
use Rattle.mark_core.proofs.marking.Core.new.Goals as goal

pub invariant_of-result : goal.invariant_of-result
invariant_of-result c =
    lawful_same _ c.in_ok-machine.machine.shape _ (state c.in_ok-machine.machine) c.in_ok-machine.ensures.0 c.in_ok-machine.ensures.1 (start_lawful _ _)
