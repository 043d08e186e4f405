use Rattle.extent_index.proofs.search.has_any.Given as goal

abbrev pub ghosts-has_any_by : goal.ghosts-has_any_by
ghosts-has_any_by a = record { name = a.blank.name; parts = a.blank.parts }
