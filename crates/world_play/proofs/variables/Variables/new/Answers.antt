use Rattle.std.proofs.Common.{◌≡◌, List, subst, sym, arith}
use Rattle.std.proofs.lemmas.List.{take_more, take_all}
use Rattle.world_play.specs.Types.{Weak}
use Rattle.world_play.specs.Variables.{unbound}
use Rattle.world_play.proofs.Keeping.{AreFresh, shows, fresh_none, fresh_more, fresh_standing}
use Rattle.world_play.proofs.variables.Variables.new.Goals as goal

pub loop-count-init : goal.loop-count-init
loop-count-init c = rw c.new-lanes.ensures.items fresh_none

pub loop-count-preserved : goal.loop-count-preserved
loop-count-preserved c =
    rw (c.in_ok-push.ensures.items, take_more c.args.counts.now c.loop-count.count-index 0 c.loop-count-test.true)
    (fresh_more _ _ _ _ c.loop-count.invariant c.in_ok-new.ensures.slots)

pub returns : goal.returns
returns c =
    subst (λ (weaks : List Weak). shows c.loop-count.lanes.items weaks ≡ unbound c.args.counts.now c.args.weaks) (sym c.in_ok-weaks.ensures)
    (fresh_standing c.loop-count.lanes.items c.args.counts.now c.args.weaks
    (subst (AreFresh c.loop-count.lanes.items) (take_all _ _ (omega (arith, c.loop-count-test.false))) c.loop-count.invariant))
