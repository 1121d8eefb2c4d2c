use Rattle.std.proofs.Common.{sym, ◌∙◌, ap, not, true, false}
use Rattle.level_script.specs.Operands.{vars_of}
use Rattle.level_script.proofs.Clusters.{apart, bound_members}
use Rattle.level_script.proofs.lanes.LaneNames.bind_members.Goals as goal

pub returns-in-Ok-true : goal.returns-in-Ok-true
returns-in-Ok-true c =
    bound_members c.args.classes.now.classes c.args.self.now.names c.args.words.now _ c.members.new.self c.in_ok-members.members true c.in_ok-members.ensures
    (sym c.in-Ok-true.field-0-test ∙ c.in-Ok-true.ensures ∙ ap (λ ms. not (apart (vars_of ms))) c.as_slice.ensures)

pub returns-in-Ok-false : goal.returns-in-Ok-false
returns-in-Ok-false c =
    bound_members c.args.classes.now.classes c.args.self.now.names c.args.words.now _ c.members.new.self c.in_ok-members.members false c.in_ok-members.ensures
    (sym c.in-Ok-false.field-0-test ∙ c.in-Ok-false.ensures ∙ ap (λ ms. not (apart (vars_of ms))) c.as_slice.ensures)
