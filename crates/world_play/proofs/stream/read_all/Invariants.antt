use Rattle.std.proofs.Common.{◌≡◌, ◌+◌, ◌-◌, ◌≤◌, length}
use Rattle.world_play.proofs.Streams.{ReadOn}
use Rattle.world_play.proofs.stream.read_all.Given as goal

abbrev pub invariant-loop-buf : goal.invariant-loop-buf
invariant-loop-buf g l =
    let left = g.S.Source.left in
    record {
      faults : g.S.Source.faults l.source ≡ g.S.Source.faults l.fn.source;
      inside : length l.all.items ≤ l.limit + 1;
      bytes : ReadOn (left l.fn.source) (left l.source) l.all.items;
    }

abbrev pub decreases-loop-buf : goal.decreases-loop-buf
decreases-loop-buf g l = l.limit + 1 - length l.all.items
