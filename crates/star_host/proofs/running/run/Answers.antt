use Rattle.star_reading.proofs.Known.{none_known}
use Rattle.star_host.proofs.Shared.{no_ends}
use Rattle.star_host.proofs.running.run.Goals as goal

pub run_in-requires-clause-ends : goal.run_in-requires-clause-ends
run_in-requires-clause-ends g c = λ lives within. no_ends c.args.files.now c.args.options.roots.now c.args.options.prelude c.args.options.mode.now

pub run_in-requires-clause-reads : goal.run_in-requires-clause-reads
run_in-requires-clause-reads g c = λ lives within. none_known c.args.files.now c.args.options.prelude c.args.options.mode.now.language c.new-reads.result.all.items c.new-reads.ensures
