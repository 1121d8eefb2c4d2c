use Rattle.std.proofs.Common.{◌≡◌, ◌-◌, ◌≤◌, length, take}
use Rattle.world_play.specs.Streams.{Gained}
use Rattle.world_play.proofs.stream.put_all.Given as goal

abbrev pub invariant-loop-at : goal.invariant-loop-at
invariant-loop-at g l =
    record {
      faults : g.K.Sink.faults l.sink ≡ g.K.Sink.faults l.fn.sink;
      inside : l.at ≤ length l.bytes;
      gained : Gained (g.K.Sink.held l.fn.sink) (g.K.Sink.held l.sink) (take l.at l.bytes);
    }

abbrev pub decreases-loop-at : goal.decreases-loop-at
decreases-loop-at g l = length l.bytes - l.at
