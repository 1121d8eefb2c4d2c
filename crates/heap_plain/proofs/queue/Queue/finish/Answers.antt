use Rattle.heap_plain.proofs.Waits.{finishes}
use Rattle.heap_plain.proofs.queue.Queue.finish.Goals as goal

pub returns : goal.returns
returns c =
    let i = c.self.inside in
    rw (← c.self.view_is)
    (finishes i.order.items i.listed i.begun i.from i.kept c.self.invariant (rw (← c.self.view_is) at c.requires.some)
    (rw (← c.self.view_is) at c.requires.all_begun) c.turned-end.result c.turned-end.ensures)
