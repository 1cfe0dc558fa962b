use Rattle.std.proofs.Common.{None, sym, subst}
use Rattle.star_outcome.specs.GoodEnds.{AreGoodEndsOf}
use Rattle.star_reading.proofs.Known.{none_known}
use Rattle.serve_tests.proofs.again.run_with.Goals as goal

pub run_in-requires-clause-ends : goal.run_in-requires-clause-ends
run_in-requires-clause-ends g c = λ lives within.
    subst (AreGoodEndsOf c.args.files.now c.args.roots.now None c.args.mode.now) (sym c.as_slice-2.ensures.value) c.requires.ends

pub run_in-requires-clause-reads : goal.run_in-requires-clause-reads
run_in-requires-clause-reads g c = λ lives within. none_known c.args.files.now None c.args.mode.now.language c.new-reads.result.all.items c.new-reads.ensures
