use Rattle.serve_tests.proofs.cache.locked.spoiled_for_the_waiter.Given as goal

abbrev pub ghosts-spoils : goal.ghosts-spoils
ghosts-spoils g a = record { name = a.blank.name; parts = a.blank.parts }
