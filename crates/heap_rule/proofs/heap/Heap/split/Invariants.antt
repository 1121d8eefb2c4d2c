use Rattle.heap_rule.proofs.heap.Heap.split.Given as goal

abbrev pub ghosts-cut : goal.ghosts-cut
ghosts-cut g a = record { those = a.set }
