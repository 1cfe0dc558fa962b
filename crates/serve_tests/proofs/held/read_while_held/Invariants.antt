use Rattle.star_host.specs.Worlds.{plan_in}
use Rattle.serve_tests.proofs.held.read_while_held.Given as goal

abbrev pub ghosts-read_and_load-J-RunId : goal.ghosts-read_and_load-J-RunId
ghosts-read_and_load-J-RunId g a = let c = a.common.now in record { files = c.files.now; plan = plan_in c; shelf = c.modules.now }

abbrev pub ghosts-read_and_load-J-Ledger : goal.ghosts-read_and_load-J-Ledger
ghosts-read_and_load-J-Ledger g a = record { name = a.blank.name; parts = a.blank.parts }
