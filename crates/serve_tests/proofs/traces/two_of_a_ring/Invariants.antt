use Rattle.std.proofs.Common.{[]}
use Rattle.serve_tests.proofs.LoadsItself.{twice}
use Rattle.serve_tests.proofs.traces.two_of_a_ring.Given as goal

abbrev pub ghosts-two_are_read-J-Ledger : goal.ghosts-two_are_read-J-Ledger
ghosts-two_are_read-J-Ledger g a = record { name = 0; parts = 1 }

abbrev pub ghosts-two_are_read-J-RunId : goal.ghosts-two_are_read-J-RunId
ghosts-two_are_read-J-RunId g a = record { files = []; plan = twice; shelf = [] }
