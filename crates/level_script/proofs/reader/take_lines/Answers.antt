use Rattle.std.proofs.Common.{sym, ap, ◌∙◌, subst, Result, Err, arith, ◌≤◌}
use Rattle.level_script.specs.Lines.{input_lines}
use Rattle.level_script.specs.Reading.{read_from, ReadsLines}
use Rattle.level_script.specs.declared.context.Context.{Context}
use Rattle.level_script.specs.declared.cause.ScriptErr.{ScriptErr}
use Rattle.level_script.proofs.Taking.{read_none, read_more, reads_err}
use Rattle.level_script.proofs.reader.take_lines.Goals as goal

pub returns-in-Err : goal.returns-in-Err
returns-in-Err c =
    let P : Result Context ScriptErr → Type 0 = λ want. ReadsLines {A = Unit {0}} want c.take_line.new.context (Err c.in-Err.error) in
    subst P (ap (read_from c.loop-line.number c.loop-line.context) (sym c.in-Some.ensures.lines) ∙ c.loop-line.invariant.same)
    (reads_err (Unit {0}) c.loop-line.number c.loop-line.context c.in-Some.line.now (input_lines c.in-Some.after.now) c.take_line.new.context
    c.take_line.new.context c.in-Err.error c.in-Err.ensures.after_line)

pub loop-line-preserved : goal.loop-line-preserved
loop-line-preserved c = record {
  same =
      sym
      (read_more c.loop-line.number c.loop-line.context c.take_line.new.context c.in-Some.line.now (input_lines c.in-Some.after.now)
      c.in_default-take_line.ensures.after_line) ∙ ap (read_from c.loop-line.number c.loop-line.context) (sym c.in-Some.ensures.lines)
      ∙ c.loop-line.invariant.same;
  few = let within : c.loop-line.number ≤ 200000 = c.in_default-take_line.ensures.within in omega (arith, within);
  ascii = λ h. (c.in-Some.ensures.ascii (c.loop-line.invariant.ascii h)).1;
}

pub returns : goal.returns
returns c = sym c.loop-line.invariant.same ∙ ap (read_from c.loop-line.number c.loop-line.context) c.in_default.ensures.lines ∙ read_none c.loop-line.number c.loop-line.context
