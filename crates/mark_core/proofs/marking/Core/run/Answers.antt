use Rattle.std.proofs.Common.{arith}
use Rattle.mark_core.proofs.Runs.{none_done, ran_on, all_done}
use Rattle.mark_core.proofs.marking.Core.run.Goals as goal

pub loop-k-init : goal.loop-k-init
loop-k-init c = none_done c.args.self.now

pub loop-k-preserved : goal.loop-k-preserved
loop-k-preserved c =
    let may = c.allows.ensures.0 c.if-not-allows.false in
    ran_on c.args.self.now c.loop-k.self c.step.new.self c.args.events.now c.loop-k.k c.loop-k-test.true c.loop-k.invariant may c.step.ensures.done

pub returns-then-not-allows : goal.returns-then-not-allows
returns-then-not-allows c =
    (c.loop-k-test.true, c.loop-k.invariant, λ may. absurd (let yes = c.allows.ensures.1 may in let off = c.if-not-allows.true in cc))

pub returns : goal.returns
returns c = all_done c.args.self.now c.loop-k.self c.args.events.now c.loop-k.k (omega arith) c.loop-k.invariant
