use Rattle.star_host.specs.Worlds.{plan_in}
use Rattle.serve_tests.proofs.library.load_label.Given as goal

abbrev pub ghosts-load_first-J-Ledger : goal.ghosts-load_first-J-Ledger
ghosts-load_first-J-Ledger g a = record { name = a.blank.name; parts = a.blank.parts }

abbrev pub ghosts-load_first-J-RunId : goal.ghosts-load_first-J-RunId
ghosts-load_first-J-RunId g a = let c = a.common.now in record { files = c.files.now; plan = plan_in c; shelf = c.modules.now }
