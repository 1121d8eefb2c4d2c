use Rattle.heap_rule.proofs.Dirties.{dirties_marker}
use Rattle.heap_rule.proofs.steps.set_dirty_by_marker.Goals as goal

pub fetch_or-requires-clause-rule : goal.fetch_or-requires-clause-rule
fetch_or-requires-clause-rule g c = let z = g.S.Shape.sizes in dirties_marker z c.args.marker g.S.Shape.lawful c.args.seat.now.id 8 c.args.seat.now.view c.requires.may
