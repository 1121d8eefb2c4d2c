use Rattle.frames.proofs.Calling.{closes}
use Rattle.frames.proofs.close_frame.Goals as goal

pub returns-clause-closed : goal.returns-clause-closed
returns-clause-closed g c = let told = c.close_frame.ensures.told in closes g.S.Shape.sizes c.args.lane c.args.seat.now.view c.close_frame.new.seat.view told.0 c.requires.opened told.1
