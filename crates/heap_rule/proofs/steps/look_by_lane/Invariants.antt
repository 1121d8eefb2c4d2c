use Rattle.heap_rule.proofs.steps.look_by_lane.Given as goal

abbrev pub ghosts-load : goal.ghosts-load
ghosts-load g a = record { ask = a.ask.now }
