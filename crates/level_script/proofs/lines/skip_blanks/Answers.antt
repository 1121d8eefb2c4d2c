use Rattle.level_script.proofs.Cutting.{words_skip, begins_skip}
use Rattle.level_script.proofs.lines.skip_blanks.Goals as goal

pub returns-clause-words : goal.returns-clause-words
returns-clause-words c = rw (c.split_at.ensures.back, c.blanks.ensures.count) (words_skip c.args.bytes.now)

pub returns-clause-begins : goal.returns-clause-begins
returns-clause-begins c = rw (c.split_at.ensures.back, c.blanks.ensures.count) (begins_skip c.args.bytes.now)
