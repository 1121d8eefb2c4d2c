use Rattle.std.proofs.Common.{refl, ◌≡◌, rules}
use Rattle.mark_core.specs.Shown.{state}
use Rattle.mark_core.proofs.Numbers.{marker_loads_at, marker_loads_only}
use Rattle.mark_core.proofs.machine.Machine.marker_may_load.Goals as goal

pub returns-then-scan-n : goal.returns-then-scan-n
returns-then-scan-n c =
    marker_loads_at c.args.self.now.shape (state c.args.self.now) c.args.m c.args.n c.in-Some.scan c.is_none.result c.in-Some.ensures.scan
    c.in-Some.ensures.in_unit refl c.if-scan-n.true c.is_none.ensures

pub returns-else-scan-n : goal.returns-else-scan-n
returns-else-scan-n c = (
  λ t. absurd (c.if-scan-n.false (let same : c.in-Some.scan.next ≡ c.args.n = search rules in same)),
  λ may. absurd (c.if-scan-n.false (marker_loads_only c.args.self.now.shape (state c.args.self.now) c.args.m c.args.n c.in-Some.scan c.in-Some.ensures.scan c.in-Some.ensures.in_unit may).0),
)
