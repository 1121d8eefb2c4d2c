use Rattle.std.proofs.Common.{◌≡◌, ◌⊎◌, sym, subst}
use Rattle.level_script.specs.declared.limits.Limits.{Limits}
use Rattle.level_script.specs.Frames.{IsPlayable}
use Rattle.world_play.specs.Ends.{IsScript, NamesFault}
use Rattle.world_play.specs.declared.status.Status.{Status}
use Rattle.world_play.specs.declared.status.Status.TheVariants as status
use Rattle.world_play.proofs.Ending.{headline_of, outcome_of_run, early_of, counts_of, completes_unread, names_of_script, names_unread}
use Rattle.world_play.proofs.Lines.{plain_class}
use Rattle.world_play.proofs.Telling.{one_text_holds}
use Rattle.world_play.proofs.run.play_words.Goals as goal

pub returns-in-Ok-clause-headline : goal.returns-in-Ok-clause-headline
returns-in-Ok-clause-headline g c =
    headline_of c.args.words c.perform_in.result.status _ _ c.in-Ok.script c.perform_in.result.run _ _ _
    (subst (λ (limits : Limits). IsScript limits (g.S.Source.left c.args.script.now) c.in-Ok.script) c.limits_in.ensures.limits
    c.in-Ok.ensures.read) c.in-Ok.ensures.taken c.perform_in.ensures.played

pub returns-in-Ok-clause-outcome : goal.returns-in-Ok-clause-outcome
returns-in-Ok-clause-outcome g c =
    outcome_of_run one_text_holds c.args.words c.perform_in.result.status _ c.in-Ok.script c.perform_in.result.run _ _ _ c.lawful.ensures
    (subst (λ (limits : Limits). IsPlayable limits c.in-Ok.script) c.limits_in.ensures.limits c.in-Ok.ensures.playable)
    (subst (λ (limits : Limits). IsScript limits (g.S.Source.left c.args.script.now) c.in-Ok.script) c.limits_in.ensures.limits c.in-Ok.ensures.read)
    c.perform_in.ensures.run c.perform_in.ensures.played

pub returns-in-Ok-clause-lines : goal.returns-in-Ok-clause-lines
returns-in-Ok-clause-lines g c =
    counts_of _ _ c.perform_in.result.status c.in-Ok.script _ _ _ _
    (λ class. plain_class c.in-Ok.script.classes.classes class.0 c.in-Ok.ensures.playable.named) c.perform_in.ensures.played

pub returns-in-Err-clause-complete : goal.returns-in-Err-clause-complete
returns-in-Err-clause-complete g c told quiet put_quiet =
    subst (λ (how : Status). (how ≡ status.Ok) ⊎ (how ≡ status.Memory)) (sym c.without_run.ensures.status)
    (completes_unread c.args.words.shape _ c.in-Err.status _ _ _ _ c.limits_in.ensures.limits c.in-Err.ensures.refused told quiet)

pub returns-in-Ok-clause-script : goal.returns-in-Ok-clause-script
returns-in-Ok-clause-script g c =
    names_of_script c.args.words.shape c.perform_in.result.status _ c.in-Ok.script _ _
    (subst (λ (limits : Limits). IsScript limits (g.S.Source.left c.args.script.now) c.in-Ok.script) c.limits_in.ensures.limits
    c.in-Ok.ensures.read) c.perform_in.ensures.write

pub returns-in-Err-clause-script : goal.returns-in-Err-clause-script
returns-in-Err-clause-script g c =
    subst (λ (how : Status). NamesFault c.args.words.shape (g.S.Source.left c.args.script.now) how) (sym c.without_run.ensures.status)
    (names_unread c.args.words.shape _ c.in-Err.status _ _ _ _ c.limits_in.ensures.limits c.in-Err.ensures.refused)

pub returns-in-Ok-clause-early : goal.returns-in-Ok-clause-early
returns-in-Ok-clause-early g c =
    early_of c.args.words c.perform_in.result.status _ c.in-Ok.script c.perform_in.result.run _ _ _
    (subst (λ (limits : Limits). IsScript limits (g.S.Source.left c.args.script.now) c.in-Ok.script) c.limits_in.ensures.limits
    c.in-Ok.ensures.read) c.perform_in.ensures.played
