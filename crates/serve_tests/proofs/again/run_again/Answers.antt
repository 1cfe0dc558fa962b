use Rattle.std.proofs.Common.{None}
use Rattle.serve_tests.proofs.again.run_again.Goals as goal

pub run_with-requires-clause-ends : goal.run_with-requires-clause-ends
run_with-requires-clause-ends g c = λ lives within.
    c.in_ok-ends.ensures.again c.args.files.now c.args.roots.now None c.args.mode.now c.len.ensures.ordered c.requires.modules
