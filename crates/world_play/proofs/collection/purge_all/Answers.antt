use Rattle.std.proofs.Common.{ap, ◌∙◌, inl, inr, sym, arith}
use Rattle.world_play.specs.Header.{Header}
use Rattle.world_play.specs.Collections.{is_ready}
use Rattle.world_play.proofs.Purging.{destroys_none, destroys_more, destroys_all, purge_answers, still_by_class, purge_less, never_gathering}
use Rattle.world_play.proofs.collection.purge_all.Goals.{then-left-eq0-via-then-left-eq0, then-left-eq0-via-else-left-eq0+then-bound-eq0}
use Rattle.world_play.proofs.collection.purge_all.Goals as goal

pub purges-init : goal.purges-init
purges-init g c = rw c.left-left.ensures.same (record {
  on = destroys_none _ _ _ _ _ _ (omega (arith, c.requires.found)) c.requires.swept;
  left = c.left-left.ensures.left;
  held = c.left-left.ensures.held;
  tested = λ n class poll answer h. h ∙ ap (λ (t : Header). is_ready t.classes class poll) c.header.view_is;
})

pub returns-then-left-eq0-clause-destroys : goal.returns-then-left-eq0-clause-destroys
returns-then-left-eq0-clause-destroys g c = destroys_all _ _ _ _ _ c.purges.bound c.purges.invariant.on (elim c.then-left-eq0.branch [
  | then-left-eq0-via-then-left-eq0 w ↦ inl (sym c.purges.invariant.left ∙ w.if-left-eq0.true)
  | then-left-eq0-via-else-left-eq0+then-bound-eq0 w ↦ inr w.if-bound-eq0.true
])

pub overflow_sub-bound : goal.overflow_sub-bound
overflow_sub-bound g c =
    let i = c.purges.invariant in
    let says = purge_answers _ c.args.header.now _ _ _ _ _ c.in-Ran.ensures.entries i.tested c.in-Ran.ensures.tested in
    (destroys_more _ _ _ _ _ _ _ _ _ _ _ c.min.ensures i.on c.in-Ran.ensures.entries (omega (arith, c.if-left-eq0.false, i.left)) (omega (arith, c.if-bound-eq0.false)) says).2

pub purges-preserved : goal.purges-preserved
purges-preserved g c =
    let i = c.purges.invariant in
    let says = purge_answers _ c.args.header.now _ _ _ _ _ c.in-Ran.ensures.entries i.tested c.in-Ran.ensures.tested in
    let more = destroys_more _ _ _ _ _ _ _ _ _ _ _ c.min.ensures i.on c.in-Ran.ensures.entries (omega (arith, c.if-left-eq0.false, i.left)) (omega (arith, c.if-bound-eq0.false)) says in
    record {
      on = more.0;
      left = more.1;
      held = λ lane r h. c.purge.ensures.held lane r (i.held lane r h);
      tested = still_by_class c.args.header.now _ _ c.purge.ensures.same_test i.tested;
    }

pub purges-smaller : goal.purges-smaller
purges-smaller g c =
    let i = c.purges.invariant in
    let says = purge_answers _ c.args.header.now _ _ _ _ _ c.in-Ran.ensures.entries i.tested c.in-Ran.ensures.tested in
    let more = destroys_more _ _ _ _ _ _ _ _ _ _ _ c.min.ensures i.on c.in-Ran.ensures.entries (omega (arith, c.if-left-eq0.false, i.left)) (omega (arith, c.if-bound-eq0.false)) says in
    purge_less c.purges.bound c.in-Ran.steps c.in-Ran.rest c.purges.left c.min.result more.2 more.3
    (omega (arith, c.min.ensures, c.requires.some, c.if-bound-eq0.false)) (omega (arith, c.if-left-eq0.false))

pub returns-in-Gathering-clause-destroys : goal.returns-in-Gathering-clause-destroys
returns-in-Gathering-clause-destroys g c = absurd (never_gathering _ _ _ _ c.in-Gathering.ensures.entries c.purges.invariant.on.swept.idle)

pub returns-in-Gathering-clause-left : goal.returns-in-Gathering-clause-left
returns-in-Gathering-clause-left g c = absurd (never_gathering _ _ _ _ c.in-Gathering.ensures.entries c.purges.invariant.on.swept.idle)
