use Rattle.std.proofs.Common.{◌≡◌, ◌<◌, sym, ap, ◌∙◌, arith, Bool, true, List, [], length}
use Rattle.std.proofs.Math.ListN.{get_or, set}
use Rattle.std.proofs.lemmas.List.{get_or_default}
use Rattle.mark_core.specs.Shown.{state}
use Rattle.mark_core.specs.View.{view_of}
use Rattle.mark_core.proofs.Writes.{table-set}
use Rattle.mark_core.proofs.machine.Machine.hold.Goals as goal

pub returns-clause-state : goal.returns-clause-state
returns-clause-state c =
    let i = c.self.inside in
    let lt : c.args.lane < i.shape.lanes = rw (← c.self.view_is) at c.requires.lane in
    let small : c.args.u < i.shape.units = rw (← c.self.view_is) at c.requires.unit in
    let len = c.self.invariant.holds_len in
    let in_list : c.args.lane < length i.holds.items = omega arith in
    let row : get_or i.holds.items c.args.lane [] ≡ c.index_mut.result.now = get_or_default i.holds.items c.args.lane [] c.index_mut.result.now in_list ∙ sym c.index_mut.ensures.value in
    let held = c.self.invariant.held_len c.args.lane lt in
    let p = table-set i.holds.items c.args.lane c.args.u c.set.new.self true in_list (omega arith) (c.set.ensures ∙ ap (λ (xs : List Bool). set xs c.args.u true) (sym row)) in
    rw (← c.self.view_is) (λ k. record (state (view_of i)) { holds = p k })
