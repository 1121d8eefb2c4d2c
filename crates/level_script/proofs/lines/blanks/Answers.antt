use Rattle.std.proofs.Common.{sym, not}
use Rattle.level_script.specs.Lines.{is_blank}
use Rattle.level_script.proofs.Cutting.{at_none}
use Rattle.level_script.proofs.lines.blanks.Goals as goal

pub returns-in-None-clause-count : goal.returns-in-None-clause-count
returns-in-None-clause-count c = sym (at_none (λ b. not (is_blank b)) c.args.bytes.now (sym c.in-None.ensures))
