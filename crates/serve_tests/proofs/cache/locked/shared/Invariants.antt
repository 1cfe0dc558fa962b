use Rattle.serve_tests.proofs.cache.locked.shared.Given as goal

abbrev pub ghosts-shared_by : goal.ghosts-shared_by
ghosts-shared_by g a = record { name = a.blank.name; parts = a.blank.parts }
