use Rattle.serve_tests.proofs.cache.locked.closed_late.Given as goal

abbrev pub ghosts-closes_late : goal.ghosts-closes_late
ghosts-closes_late a = record { name = a.blank.name; parts = a.blank.parts }
