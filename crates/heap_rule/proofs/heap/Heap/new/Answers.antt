use Rattle.heap_rule.specs.Memory.{Shows}
use Rattle.heap_rule.specs.Start.{first_memory}
use Rattle.heap_rule.proofs.heap.Heap.new.Goals as goal
use Rattle.heap_rule.proofs.News.{begins_kept}

pub of_words-requires : goal.of_words-requires
of_words-requires g c =
    let z = g.S.Shape.sizes in
    let shown : Shows z c.as_slice.result.now (first_memory z) = rw c.as_slice.ensures.value c.in_ok-words.ensures in
    begins_kept z c.as_slice.result.now g.S.Shape.lawful shown
