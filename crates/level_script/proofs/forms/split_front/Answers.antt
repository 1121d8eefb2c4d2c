use Rattle.std.proofs.Common.{◌≡◌, ap, ◌∙◌, take}
use Rattle.std.specs.List.{list_all}
use Rattle.level_script.specs.Forms.{continues_identifier, front}
use Rattle.level_script.proofs.Forming.{front_continues}
use Rattle.level_script.proofs.forms.split_front.Goals as goal

pub returns-clause-form : goal.returns-clause-form
returns-clause-form c =
    let front_is : c.split_at.result.0.now ≡ front c.args.word.now = c.split_at.ensures.front ∙ ap (λ n. take n c.args.word.now) c.front_length.ensures.count in
    ap (list_all continues_identifier) front_is ∙ front_continues c.args.word.now
