use Rattle.heap_rule.proofs.Opens.{opens}
use Rattle.heap_rule.proofs.steps.open_frame.Goals as goal

pub fetch_add-requires-clause-rule : goal.fetch_add-requires-clause-rule
fetch_add-requires-clause-rule g c = let z = g.S.Shape.sizes in opens z c.args.lane g.S.Shape.lawful c.args.seat.now.id 256 c.args.seat.now.view c.requires.may
