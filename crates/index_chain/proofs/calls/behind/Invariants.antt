use Rattle.std.proofs.Common.{◌≡◌, ◌-◌, [], drop}
use Rattle.index_chain.specs.Walks.{walk, items}
use Rattle.index_chain.proofs.calls.behind.Given as goal

abbrev pub invariant-loop-passed : goal.invariant-loop-passed
invariant-loop-passed g l =
    record {
      words : g.L.Links.words l.links ≡ g.L.Links.words l.fn.links;
      writes : g.L.Links.writes l.fn.links l.links [];
      rest : walk (g.L.Links.words l.fn.links) (l.fn.chain.count - l.passed) l.here ≡ drop l.passed (items (g.L.Links.words l.fn.links) l.fn.chain);
    }
