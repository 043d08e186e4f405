use Rattle.extent_index.proofs.index.ExtentIndex.best_fit.Given as goal

abbrev pub ghosts-best_fit_by : goal.ghosts-best_fit_by
ghosts-best_fit_by a = record { name = a.blank.name; parts = a.blank.parts }
