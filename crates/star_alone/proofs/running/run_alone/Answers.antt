use Rattle.star_alone.proofs.running.run_alone.Goals as goal

pub returns-clause-refused : goal.returns-clause-refused
returns-clause-refused c = rw c.new-2.ensures c.in_ok-kept.ensures.refused
