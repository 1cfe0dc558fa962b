use Rattle.star_host.specs.Worlds.{plan_in}
use Rattle.star_host.proofs.running.run_over.Given as goal

abbrev pub ghosts-run_named-J-Ledger : goal.ghosts-run_named-J-Ledger
ghosts-run_named-J-Ledger g a = record { name = a.blank.name; parts = a.blank.parts }

abbrev pub ghosts-run_named-J-RunId : goal.ghosts-run_named-J-RunId
ghosts-run_named-J-RunId g a = record {
  files = a.common.now.files.now;
  plan = plan_in a.common.now;
  shelf = a.common.now.modules.now;
}
