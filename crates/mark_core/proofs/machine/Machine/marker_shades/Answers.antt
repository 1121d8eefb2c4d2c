use Rattle.mark_core.specs.Shown.{state, sizes}
use Rattle.mark_core.proofs.Ranges.{alive_in, found_alive}
use Rattle.mark_core.proofs.machine.Machine.marker_shades.Goals as goal

pub shade-requires-clause-unit : goal.shade-requires-clause-unit
shade-requires-clause-unit c =
    let z = sizes c.args.self.now.shape in
    let s = state c.args.self.now in
    alive_in z s c.args.unit (found_alive z s c.args.m c.args.unit c.requires.may.1 c.requires.lawful) c.requires.lawful

pub shade-requires-clause-alive : goal.shade-requires-clause-alive
shade-requires-clause-alive c = found_alive (sizes c.args.self.now.shape) (state c.args.self.now) c.args.m c.args.unit c.requires.may.1 c.requires.lawful
