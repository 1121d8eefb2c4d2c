use Rattle.std.proofs.Common.{sym, not}
use Rattle.level_script.specs.Forms.{continues_identifier}
use Rattle.level_script.proofs.Cutting.{at_none}
use Rattle.level_script.proofs.forms.front_length.Goals as goal

pub returns-in-None-clause-count : goal.returns-in-None-clause-count
returns-in-None-clause-count c = sym (at_none (λ b. not (continues_identifier b)) c.args.word.now (sym c.in-None.ensures))
