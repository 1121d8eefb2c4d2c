use Rattle.std.proofs.Common.{◌<◌, sym, ◌∙◌, arith}
use Rattle.std.proofs.lemmas.List.{get_or_default}
use Rattle.heap_plain.proofs.Waits.{begins}
use Rattle.heap_plain.proofs.queue.Queue.begin.Goals as goal

pub returns : goal.returns
returns c =
    let i = c.self.inside in
    let less : i.begun < i.listed = omega (arith, c.if-self.false, c.self.invariant.begun_few) in
    let at = c.index-index.ensures ∙ sym (get_or_default i.order.items i.begun 0 c.index-index.result.now (omega (arith, c.self.invariant.listed_few))) in
    rw (← c.self.view_is, at) (begins i.order.items i.listed i.begun i.from i.kept c.self.invariant less)
