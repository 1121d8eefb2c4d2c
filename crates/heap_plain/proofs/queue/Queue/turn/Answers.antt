use Rattle.std.proofs.Common.{sym, ◌∙◌, arith}
use Rattle.std.proofs.lemmas.List.{get_or_default}
use Rattle.heap_plain.proofs.Waits.{waits_now, turns_back}
use Rattle.heap_plain.proofs.queue.Queue.turn.Goals as goal

pub returns : goal.returns
returns c =
    let i = c.self.inside in
    let some = rw (← c.self.view_is) at c.requires.some in
    let all = rw (← c.self.view_is) at c.requires.all_begun in
    let less = waits_now i.order.items i.listed i.begun i.from i.kept c.self.invariant some in
    let at = c.index.ensures ∙ sym (get_or_default i.order.items i.from 0 c.index.result.now (omega (arith, less, c.self.invariant.begun_few, c.self.invariant.listed_few))) in
    rw (← c.self.view_is, at) (turns_back i.order.items i.listed i.begun i.from i.kept c.self.invariant some all c.turned-end.result c.turned-end.ensures)
