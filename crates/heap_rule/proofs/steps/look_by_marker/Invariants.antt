use Rattle.heap_rule.proofs.steps.look_by_marker.Given as goal

abbrev pub ghosts-load : goal.ghosts-load
ghosts-load g a = record { ask = a.ask.now }
