use Rattle.heap_rule.proofs.Looks.{lane_looks}
use Rattle.heap_rule.proofs.steps.look_by_lane.Goals as goal

pub load-requires-clause-rule : goal.load-requires-clause-rule
load-requires-clause-rule g c = let z = g.S.Shape.sizes in lane_looks z c.args.lane g.S.Shape.lawful c.args.seat.now.id 0 c.args.seat.now.view c.requires.may
