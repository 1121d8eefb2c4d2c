use Rattle.std.proofs.Common.{refl, false}
use Rattle.std.proofs.Math.ListN.{get_or}
use Rattle.mark_core.proofs.Sets.{none_tells}
use Rattle.mark_core.proofs.machine.Machine.found_nothing.Goals as goal

pub returns : goal.returns
returns c =
    let i = c.self.inside in
    rw (← c.self.view_is) (none_tells (λ u. get_or i.own_found u false) i.own_found i.shape.units c.count.result c.self.invariant.found_len (λ u. refl) c.count.ensures)
