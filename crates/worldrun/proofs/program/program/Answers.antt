use Rattle.world_play.specs.Ends.{said, shape_said}
use Rattle.worldrun.proofs.Ending.{some_so, some_both, names_ended, complete_ended, done_so, headline_beneath, outcome_beneath, early_ended}
use Rattle.worldrun.proofs.program.program.Goals as goal

pub returns-clause-script : goal.returns-clause-script
returns-clause-script g c =
    some_so (shape_said c.args.words.now) _ _ (λ shape. names_ended shape _ c.worldrun-ended.result.status c.finish-status.result _ _ c.finish-status.ensures.ends) c.worldrun-ended.ensures.script

pub returns-clause-complete : goal.returns-clause-complete
returns-clause-complete g c =
    some_so (shape_said c.args.words.now) _ _
    (λ shape.
    complete_ended shape _ _ _ _ _ _ c.worldrun-ended.result.status c.finish-status.result c.finish-status.ensures.ends
    c.worldrun-ended.ensures.write_fault) c.worldrun-ended.ensures.complete

pub returns-clause-headline : goal.returns-clause-headline
returns-clause-headline g c =
    some_so (said c.args.words.now) _ _
    (λ w.
    done_so _ _ c.worldrun-ended.result.status c.finish-status.result _ _ c.finish-status.ensures.ends
    (λ well. headline_beneath w _ _ _ _ _ _ c.worldrun-ended.result.run c.finish-status.ensures.kept (c.finish-status.ensures.written well)))
    c.worldrun-ended.ensures.headline

pub returns-clause-outcome : goal.returns-clause-outcome
returns-clause-outcome g c =
    some_so (shape_said c.args.words.now) _ _
    (λ shape.
    done_so _ _ c.worldrun-ended.result.status c.finish-status.result _ _ c.finish-status.ensures.ends
    (λ well. outcome_beneath shape _ _ _ _ _ c.finish-status.ensures.kept (c.finish-status.ensures.written well)))
    c.worldrun-ended.ensures.outcome

pub returns-clause-early : goal.returns-clause-early
returns-clause-early g c =
    some_both (said c.args.words.now) _ _ _
    (λ w.
    early_ended w _ _ _ _ _ c.worldrun-ended.result.lines c.worldrun-ended.result.run c.worldrun-ended.result.status c.finish-status.result _ _
    c.finish-status.ensures.ends c.finish-status.ensures.kept) c.worldrun-ended.ensures.early c.worldrun-ended.ensures.headline
