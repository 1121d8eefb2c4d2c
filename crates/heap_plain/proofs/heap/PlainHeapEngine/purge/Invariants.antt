use Rattle.std.proofs.Common.{◌-◌, ◌≤◌}
use Rattle.heap_plain.specs.Plain.{IsPurging}
use Rattle.heap_plain.proofs.heap.PlainHeapEngine.purge.Given as goal

abbrev pub invariant-loop-steps : goal.invariant-loop-steps
invariant-loop-steps g l = record {
  within : l.steps ≤ l.budget;
  purging : IsPurging g.S.Shape.sizes l.fn.self (g.D.Hooks.calls l.fn.hooks) (g.D.Hooks.calls l.hooks) (g.D.Hooks.test l.fn.hooks) (g.D.Hooks.test l.hooks) l.steps (record {
    gate = l.self-inside.gate;
    objects = record { names = l.self-inside.names.items; firsts = l.self-inside.firsts.items; sizes = l.self-inside.sizes.items; next = l.self-inside.next.items; lives = l.self-inside.lives.items };
    rows = record { kinds = l.self-inside.kinds.items; targets = l.self-inside.targets.items; plains = l.self-inside.plains.items };
    roots = l.self-inside.roots.items;
    garbage = l.self-inside.garbage.items;
    strong = l.self-inside.strong.items;
    pairs = l.self-inside.serials;
    colours = l.self-inside.colours;
    stock = record { stocks = l.self-inside.stocks.items; made = l.self-inside.made.items };
    ends =
        record {
          left = l.self-inside.left;
          swept = l.self-inside.swept;
          queue = l.self-inside.queue;
          polls = l.self-inside.polls.items;
          waiting = l.self-inside.waiting.items;
          done = l.self-inside.done;
        };
  }) l.self-inside.diary;
}

abbrev pub decreases-loop-steps : goal.decreases-loop-steps
decreases-loop-steps g l = l.budget - l.steps
