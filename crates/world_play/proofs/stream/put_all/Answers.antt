use Rattle.std.proofs.Common.{◌≡◌, ◌-◌, ◌≤◌, length, take, drop, ap, ◌∙◌, arith, length-drop}
use Rattle.std.proofs.lemmas.List.{take_all}
use Rattle.world_play.proofs.Streams.{gained_more, start_failed, start_nothing, err_holds}
use Rattle.world_play.proofs.stream.put_all.Goals as goal

pub loop-at-preserved : goal.loop-at-preserved
loop-at-preserved g c =
    let whole : take (length c.args.bytes.now - c.loop-at.at) (drop c.loop-at.at c.args.bytes.now) ≡ drop c.loop-at.at c.args.bytes.now
    = take_all _ _ (omega (arith, length-drop c.loop-at.at c.args.bytes.now)) in
    let count : c.in_ok-count.count ≤ length c.args.bytes.now - c.loop-at.at = let b = c.in_ok-count.ensures.bound in
    let e = ap length whole in
    omega (arith, length-drop c.loop-at.at c.args.bytes.now) in
    record {
      faults = c.in_ok-count.ensures.cause.1 (omega arith) ∙ c.loop-at.invariant.faults;
      inside = omega arith;
      gained = gained_more _ _ _ c.args.bytes.now _ c.loop-at.at c.in_ok-count.count whole c.loop-at.invariant.gained c.in_ok-count.ensures.bytes;
    }

pub returns-in_err-count-clause-start : goal.returns-in_err-count-clause-start
returns-in_err-count-clause-start g c =
    err_holds _ _ (start_failed _ _ _ c.args.bytes.now _ c.loop-at.at _ c.loop-at-test.true c.loop-at.invariant.gained c.in_err-count.ensures.bytes)

pub returns-then-count-eq0-clause-start : goal.returns-then-count-eq0-clause-start
returns-then-count-eq0-clause-start g c =
    start_nothing _ _ _ c.args.bytes.now _ c.loop-at.at c.in_ok-count.count c.if-count-eq0.true c.loop-at-test.true c.loop-at.invariant.gained c.in_ok-count.ensures.bytes
