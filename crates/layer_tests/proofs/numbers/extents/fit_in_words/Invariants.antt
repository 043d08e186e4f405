use Rattle.layer_tests.proofs.numbers.extents.fit_in_words.Given as goal

abbrev pub ghosts-counted : goal.ghosts-counted
ghosts-counted g a = record { name = a.blank.name; parts = a.blank.parts }
