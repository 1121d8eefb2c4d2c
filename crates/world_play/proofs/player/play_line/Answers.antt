use Rattle.std.proofs.Common.{ℕ, List, ◌++◌, ap, subst, ◌∙◌}
use Rattle.world_play.specs.Header.{Header}
use Rattle.world_play.specs.Text.{text_of}
use Rattle.world_play.specs.Streams.{GainedStart}
use Rattle.world_play.proofs.Collecting.{each_err}
use Rattle.world_play.proofs.Playing.{breaks, turned_broken, puts_part}
use Rattle.world_play.proofs.player.play_line.Goals as goal

pub returns-in_default-clause-unanswered : goal.returns-in_default-clause-unanswered
returns-in_default-clause-unanswered g c = breaks _ _ _ _ _ _ c.args.line.now _ c.in_default.ensures.broken

pub returns-in_default-push_line-clause-unanswered : goal.returns-in_default-push_line-clause-unanswered
returns-in_default-push_line-clause-unanswered g c = breaks _ _ _ _ _ _ c.args.line.now _ (turned_broken _ _ _ _ _ _ _ _ _ _ c.lawful.ensures.legal c.in-Ok.ensures.turned)

pub returns-clause-unanswered : goal.returns-clause-unanswered
returns-clause-unanswered g c =
    let r = c.in-Ok.reply in
    let told =
    c.in-Ok-push_line.ensures ∙ ap (λ (front : List ℕ). front ++ text_of c.header.inside.classes.now.classes r) c.clear.ensures.bytes
    ∙ ap (λ (t : Header). text_of t.classes.classes r) c.header.view_is in
    each_err _ _ c.put_all.result
    (λ start. puts_part _ _ _ _ _ _ _ _ c.args.line.now c.in-Ok.reply _ _ c.lawful.ensures.legal c.in-Ok.ensures.turned (subst (GainedStart _ _) (c.as_bytes.ensures.value ∙ told) start))
    c.put_all.ensures.start
