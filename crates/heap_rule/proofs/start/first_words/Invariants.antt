use Rattle.heap_rule.specs.Memory.{Shows}
use Rattle.heap_rule.specs.Start.{linked_below, stocked_below}
use Rattle.heap_rule.proofs.start.first_words.Given as goal

abbrev pub invariant-loop-item : goal.invariant-loop-item
invariant-loop-item g l = record { shown : Shows g.S.Shape.sizes l.words.items (linked_below g.S.Shape.sizes l.item) }

abbrev pub invariant-loop-lane : goal.invariant-loop-lane
invariant-loop-lane g l = record { shown : Shows g.S.Shape.sizes l.words.items (stocked_below g.S.Shape.sizes l.lane) }
