use Rattle.heap_rule.proofs.Looks.{collector_looks}
use Rattle.heap_rule.proofs.steps.look_by_collector.Goals as goal

pub load-requires-clause-rule : goal.load-requires-clause-rule
load-requires-clause-rule g c = let z = g.S.Shape.sizes in collector_looks z g.S.Shape.lawful c.args.seat.now.id 0 c.args.seat.now.view c.requires.may
