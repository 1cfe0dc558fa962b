use Rattle.serve_tests.proofs.cache.locked.ring.Given as goal

abbrev pub ghosts-ring_ends : goal.ghosts-ring_ends
ghosts-ring_ends g a = record { name = a.blank.name; parts = a.blank.parts }
