use Rattle.heap_rule.proofs.Closes.{closes}
use Rattle.heap_rule.proofs.steps.close_frame.Goals as goal

pub fetch_sub-requires-clause-rule : goal.fetch_sub-requires-clause-rule
fetch_sub-requires-clause-rule g c = let z = g.S.Shape.sizes in closes z c.args.lane g.S.Shape.lawful c.args.seat.now.id 256 c.args.seat.now.view c.requires.may
