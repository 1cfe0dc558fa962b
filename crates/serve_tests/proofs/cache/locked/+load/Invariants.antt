use Rattle.serve_tests.proofs.cache.locked.+load.Given as goal

abbrev pub decreases-load : goal.decreases-load
decreases-load g l = l.budget
