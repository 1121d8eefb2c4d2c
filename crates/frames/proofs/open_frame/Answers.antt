use Rattle.frames.proofs.Calling.{opens}
use Rattle.frames.proofs.open_frame.Goals as goal

pub returns-clause-opened : goal.returns-clause-opened
returns-clause-opened g c =
    let told = c.open_frame-word.ensures.told in opens g.S.Shape.sizes c.args.lane c.args.seat.now.view c.open_frame-word.new.seat.view told.0 told.1.0.phase c.requires.closed told.1.2
