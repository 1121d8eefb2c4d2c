use Rattle.std.proofs.Common.{sym, ◌∙◌}
use Rattle.level_script.proofs.Forming.{identifier_utf8}
use Rattle.level_script.proofs.forms.front_identifier.Goals as goal

pub from_utf8_unchecked-text-requires : goal.from_utf8_unchecked-text-requires
from_utf8_unchecked-text-requires c = identifier_utf8 c.args.front.now (sym c.is_front.ensures ∙ c.if-not-is_front.false)
