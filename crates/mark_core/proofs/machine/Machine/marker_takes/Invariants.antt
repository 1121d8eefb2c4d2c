use Rattle.std.proofs.Common.{◌≡◌}
use Rattle.mark_core.specs.Shown.{state}
use Rattle.mark_core.proofs.Cursors.{takes_below}
use Rattle.mark_core.proofs.machine.Machine.marker_takes.Given as goal

abbrev pub invariant-loop-i : goal.invariant-loop-i
invariant-loop-i l = record {
  place : state l.self ≡ record (state l.fn.self) { place = takes_below l.m l.row l.first l.i (state l.fn.self).place };
  shape : l.self.shape ≡ l.fn.self.shape;
}
