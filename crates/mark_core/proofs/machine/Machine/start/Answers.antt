use Rattle.std.proofs.Common.{◌≡◌, ◌<◌, ◌+◌, ◌*◌, ◌-◌, ap, sym, ◌∙◌, arith, Some, None}
use Rattle.mark_core.specs.declared.types.Shape.{Shape}
use Rattle.mark_core.specs.Changes.{set_at}
use Rattle.mark_core.specs.Machine.{Core}
use Rattle.mark_core.specs.Shown.{state, scan_of}
use Rattle.mark_core.proofs.Cursors.{starts_none, starts_some}
use Rattle.mark_core.proofs.machine.Machine.start.Goals as goal

pub returns-then-z-eq0-clause-state : goal.returns-then-z-eq0-clause-state
returns-then-z-eq0-clause-state c =
    let none = ap (λ (z : Shape). z.cells) (sym c.shape-z.ensures.shape) ∙ c.if-z-eq0.true in
    c.end_scan.ensures.state ∙ sym (starts_none c.args.self.now.shape (state c.args.self.now) c.args.m c.args.unit none)

pub returns-else-z-eq0-clause-state : goal.returns-else-z-eq0-clause-state
returns-else-z-eq0-clause-state c =
    let same = ap (λ (z : Shape). z.cells) c.shape-z.ensures.shape in
    let some : 0 < c.shape-z.result.cells = let n = c.if-z-eq0.false in omega arith in
    let next : c.end_of.result - c.shape-z.result.cells ≡ (c.args.unit + 1) * c.args.self.now.shape.cells - c.args.self.now.shape.cells = let e = c.end_of.ensures in omega arith in
    c.set_scan.ensures.state
    ∙ (ap
    (λ (z : Shape).
    record (state c.put.new.self) {
      scan =
          set_at (state c.put.new.self).scan c.args.m
          (scan_of z (Some (record { unit = c.args.unit; next = c.end_of.result - c.shape-z.result.cells; found = None })));
    })
    c.put.ensures.shape
    ∙ (ap
    (λ (x : Core).
    record x {
      scan =
          set_at x.scan c.args.m
          (scan_of c.args.self.now.shape (Some (record { unit = c.args.unit; next = c.end_of.result - c.shape-z.result.cells; found = None })));
    }) c.put.ensures.state
    ∙ sym (starts_some c.args.self.now.shape (state c.args.self.now) c.args.m c.args.unit (c.end_of.result - c.shape-z.result.cells) (omega arith) next)))
