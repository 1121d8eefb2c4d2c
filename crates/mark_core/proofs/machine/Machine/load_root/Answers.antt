use Rattle.mark_core.specs.Shown.{state, sizes}
use Rattle.mark_core.proofs.Ranges.{root_in}
use Rattle.mark_core.proofs.machine.Machine.load_root.Goals as goal

pub find_root-requires : goal.find_root-requires
find_root-requires c =
    rw c.set_job.ensures.shape (root_in (sizes c.args.self.now.shape) (state c.args.self.now) c.args.p c.root-got.result c.root-got.ensures c.requires.lawful)
