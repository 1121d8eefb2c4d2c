use Rattle.engine_tests.proofs.Opened.{opens_alone, closes_alone}
use Rattle.engine_tests.proofs.pointers.frame.Goals as goal

pub take_all-requires : goal.take_all-requires
take_all-requires g c = record { opened = opens_alone c.open_frame.ensures.entries c.requires.closed }

pub returns : goal.returns
returns g c = record { closed = closes_alone c.close_frame.ensures.entries c.in_ok-take_all.ensures.opened }
