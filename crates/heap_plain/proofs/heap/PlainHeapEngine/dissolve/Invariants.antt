use Rattle.std.proofs.Common.{◌-◌}
use Rattle.heap_plain.specs.Parting.{IsParting}
use Rattle.heap_plain.proofs.heap.PlainHeapEngine.dissolve.Given as goal

abbrev pub invariant-loop-left : goal.invariant-loop-left
invariant-loop-left g l = IsParting g.S.Shape.sizes l.fn.self l.lane l.at.name l.head l.count l.left l.members (record {
  gate = l.self-inside.gate;
  objects = record { names = l.self-inside.names.items; firsts = l.self-inside.firsts.items; sizes = l.self-inside.sizes.items; next = l.self-inside.next.items; lives = l.self-inside.lives.items };
  rows = record { kinds = l.self-inside.kinds.items; targets = l.self-inside.targets.items; plains = l.self-inside.plains.items };
  roots = l.self-inside.roots.items;
  garbage = l.self-inside.garbage.items;
  strong = l.self-inside.strong.items;
  pairs = l.self-inside.serials;
  colours = l.self-inside.colours;
  stock = record { stocks = l.self-inside.stocks.items; made = l.self-inside.made.items };
  ends =
      record {
        left = l.self-inside.left;
        swept = l.self-inside.swept;
        queue = l.self-inside.queue;
        polls = l.self-inside.polls.items;
        waiting = l.self-inside.waiting.items;
        done = l.self-inside.done;
      };
}) l.self-inside.diary

abbrev pub decreases-loop-left : goal.decreases-loop-left
decreases-loop-left g l = l.left - 1
