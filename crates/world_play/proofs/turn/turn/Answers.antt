use Rattle.world_play.specs.Variables.{standing, shown}
use Rattle.world_play.proofs.Collecting.{each_ok, each_err}
use Rattle.world_play.proofs.Playing.{lane_turned, gc_turned, gc_broken}
use Rattle.world_play.proofs.turn.turn.Goals as goal

pub returns-in-Lane : goal.returns-in-Lane
returns-in-Lane g c = rw c.in-Lane.is (record {
  turned = lane_turned _ c.args.budget _ _ _ _ _ _ _ _ _ _ (rw c.in-Lane.is at c.requires.ready) c.lane_turn.ensures.did c.lane_turn.ensures.held c.lane_turn.ensures.counts;
  broken = tt;
})

pub returns-in-Gc : goal.returns-in-Gc
returns-in-Gc g c = rw c.in-Gc.is (record {
  turned = each_ok _ _ c.gc_turn.result (λ r h. gc_turned _ _ _ _ _ _ _ (standing c.args.variables.now) _ r (rw c.in-Gc.is at c.requires.ready) h) c.gc_turn.ensures.all;
  broken = each_err _ _ c.gc_turn.result (λ h. gc_broken _ _ _ _ _ (shown (standing c.args.variables.now)) _ h) c.gc_turn.ensures.some;
})
