use Rattle.std.proofs.Common.{sym, ◌∙◌}
use Rattle.level_script.proofs.Cutting.{words_empty, words_first, words_whole}
use Rattle.level_script.proofs.lines.first_word.Goals as goal

pub returns-then-is_empty : goal.returns-then-is_empty
returns-then-is_empty c = sym c.skip_blanks-bytes.ensures.words ∙ words_empty _ (sym c.is_empty.ensures ∙ c.if-is_empty.true)

pub returns-in-Some : goal.returns-in-Some
returns-in-Some c = rw (c.cut_at.ensures.front, c.cut_at.ensures.back) (sym c.skip_blanks-bytes.ensures.words ∙ words_first _ c.in-Some.end c.skip_blanks-bytes.ensures.begins (sym c.in-Some.ensures))

pub returns-in-None : goal.returns-in-None
returns-in-None c = rw c.after_all.ensures (sym c.skip_blanks-bytes.ensures.words ∙ words_whole _ (sym c.is_empty.ensures ∙ c.if-is_empty.false) (sym c.in-None.ensures))
