use Rattle.std.proofs.Common.{◌≡◌, ◌-◌, ◌≤◌, length, take}
use Rattle.world_play.specs.Streams.{Gained}
use Rattle.worldrun.proofs.program.put_text.Given as goal

abbrev pub invariant-loop-at : goal.invariant-loop-at
invariant-loop-at g l =
    record {
      faults : g.K.Sink.faults l.out ≡ g.K.Sink.faults l.fn.out;
      inside : l.at ≤ length l.bytes;
      gained : Gained (g.K.Sink.held l.fn.out) (g.K.Sink.held l.out) (take l.at l.bytes);
    }

abbrev pub decreases-loop-at : goal.decreases-loop-at
decreases-loop-at g l = length l.bytes - l.at
