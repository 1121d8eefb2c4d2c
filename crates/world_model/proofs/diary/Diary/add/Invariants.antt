use Rattle.world_model.proofs.diary.Diary.add.Given as goal

-- each act's entry is a function of what its function is told
abbrev pub ghosts-tell : goal.ghosts-tell
ghosts-tell g a = record { said = g.T.Tells.entry a.about.now }
