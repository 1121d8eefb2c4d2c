use Rattle.std.proofs.Common.{◌-◌, ◌^◌}
use Rattle.heap_rule.proofs.Dirties.{clears_dirty}
use Rattle.heap_rule.proofs.steps.clear_dirty.Goals as goal

pub fetch_and-requires-clause-rule : goal.fetch_and-requires-clause-rule
fetch_and-requires-clause-rule g c = let z = g.S.Shape.sizes in clears_dirty z g.S.Shape.lawful c.args.seat.now.id (2 ^ 64 - 1 - 8) c.args.seat.now.view c.requires.may
