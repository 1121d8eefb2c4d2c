use Rattle.std.proofs.Common.{◌<◌, arith, None}
use Rattle.mark_core.specs.Shown.{state}
use Rattle.mark_core.specs.View.{view_of}
use Rattle.mark_core.proofs.Sets.{list-set}
use Rattle.mark_core.proofs.machine.Machine.set_hand.Goals as goal

pub returns-clause-state : goal.returns-clause-state
returns-clause-state c =
    let i = c.self.inside in
    let lt : c.args.lane < i.shape.lanes = rw (← c.self.view_is) at c.requires in
    let len = c.self.invariant.hand_len in
    let p = list-set None i.hand.items c.args.lane c.args.hand (omega arith) in
    rw (← c.self.view_is) (λ k. record (state (view_of i)) { hand = p k })
