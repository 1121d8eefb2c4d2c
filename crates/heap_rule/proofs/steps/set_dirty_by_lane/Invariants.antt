use Rattle.heap_rule.proofs.steps.set_dirty_by_lane.Given as goal

abbrev pub ghosts-fetch_or : goal.ghosts-fetch_or
ghosts-fetch_or g a = record { ask = a.ask.now }
