use Rattle.std.proofs.Common.{◌<◌, ◌≤◌, ◌+◌, ◌*◌, ap, sym, ◌∙◌, arith, None}
use Rattle.mark_core.specs.Changes.{set_at}
use Rattle.mark_core.specs.Machine.{Core}
use Rattle.mark_core.specs.Shown.{state}
use Rattle.mark_core.proofs.Cursors.{moves_next, moves_end}
use Rattle.mark_core.proofs.machine.Machine.move_on.Goals as goal

pub returns-then-next-end-clause-state : goal.returns-then-next-end-clause-state
returns-then-next-end-clause-state c =
    let more : c.args.scan.next + 1 < (c.args.scan.unit + 1) * c.args.self.now.shape.cells = let e = c.end_of-end.ensures in let lt = c.if-next-end.true in omega arith in
    c.set_scan.ensures.state ∙ sym (moves_next c.args.self.now.shape (state c.args.self.now) c.args.m c.args.scan c.requires.in_unit.2 more)

pub returns-else-next-end-clause-state : goal.returns-else-next-end-clause-state
returns-else-next-end-clause-state c =
    let ends : (c.args.scan.unit + 1) * c.args.self.now.shape.cells ≤ c.args.scan.next + 1 = let e = c.end_of-end.ensures in let le = c.if-next-end.false in omega arith in
    c.set_scan-else-next-end.ensures.state
    ∙ (ap (λ (x : Core). record x { scan = set_at x.scan c.args.m None }) c.end_scan.ensures.state
    ∙ sym (moves_end c.args.self.now.shape (state c.args.self.now) c.args.m c.args.scan c.requires.in_unit.2 ends))
