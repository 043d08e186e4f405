use Rattle.layer_tests.proofs.numbers.extents.puts_into_the_last.Given as goal

abbrev pub ghosts-last_word : goal.ghosts-last_word
ghosts-last_word g a = record { name = a.blank.name; parts = a.blank.parts }
