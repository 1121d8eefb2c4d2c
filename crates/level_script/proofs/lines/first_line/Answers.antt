use Rattle.std.proofs.Common.{sym, ◌∙◌, ◌+◌}
use Rattle.std.proofs.lemmas.Str.{IsAscii-take, IsAscii-drop}
use Rattle.std.proofs.lemmas.Str.Ascii.{IsAscii-nil}
use Rattle.level_script.proofs.Cutting.{lines_empty, lines_first, lines_whole, ascii_line}
use Rattle.level_script.proofs.lines.first_line.Goals as goal

pub returns-then-is_empty-clause-lines : goal.returns-then-is_empty-clause-lines
returns-then-is_empty-clause-lines c = lines_empty _ (sym c.is_empty.ensures ∙ c.if-is_empty.true)

pub returns-in-Some-clause-lines : goal.returns-in-Some-clause-lines
returns-in-Some-clause-lines c = rw (c.without_return.ensures, c.cut_at.ensures.front, c.cut_at.ensures.back) (lines_first _ c.in-Some.end (sym c.in-Some.ensures))

pub returns-in-None-clause-lines : goal.returns-in-None-clause-lines
returns-in-None-clause-lines c = rw (c.without_return-in-None.ensures, c.after_all.ensures) (lines_whole _ (sym c.is_empty.ensures ∙ c.if-is_empty.false) (sym c.in-None.ensures))

pub returns-in-Some-clause-ascii : goal.returns-in-Some-clause-ascii
returns-in-Some-clause-ascii c =
    λ h. (
      rw (c.without_return.ensures, c.cut_at.ensures.front) (ascii_line _ (IsAscii-take _ c.in-Some.end h)),
      rw c.cut_at.ensures.back (IsAscii-drop _ (c.in-Some.end + 1) h),
    )

pub returns-in-None-clause-ascii : goal.returns-in-None-clause-ascii
returns-in-None-clause-ascii c = λ h. (rw c.without_return-in-None.ensures (ascii_line _ h), rw c.after_all.ensures IsAscii-nil)
