use Rattle.star_host.proofs.Ends.{stands_tree}
use Rattle.star_host.proofs.work.outcome_in.Goals as goal

pub run_body-requires-clause-running : goal.run_body-requires-clause-running
run_body-requires-clause-running c = rw c.new-world.ensures (stands_tree c.args.common.now.programs.now c.args.home c.args.program.now c.requires.stands)
