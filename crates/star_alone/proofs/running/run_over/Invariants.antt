use Rattle.star_host.specs.Worlds.{plan_in}
use Rattle.star_alone.proofs.running.run_over.Given as goal

abbrev pub ghosts-run_named-J-Ledger : goal.ghosts-run_named-J-Ledger
ghosts-run_named-J-Ledger a = record { name = 0; parts = 1 }

abbrev pub ghosts-run_named-J-RunId : goal.ghosts-run_named-J-RunId
ghosts-run_named-J-RunId a = record {
  files = a.common.now.files.now;
  plan = plan_in a.common.now;
  shelf = a.common.now.modules.now;
}
