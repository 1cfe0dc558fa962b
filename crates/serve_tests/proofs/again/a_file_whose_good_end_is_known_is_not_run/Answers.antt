use Rattle.std.proofs.Common.{sym, subst}
use Rattle.star_host.proofs.Shared.{no_ends}
use Rattle.star_outcome.specs.GoodEnds.{AreGoodEndsOf}
use Rattle.serve_tests.proofs.again.a_file_whose_good_end_is_known_is_not_run.Goals as goal

pub run_with-requires-clause-ends : goal.run_with-requires-clause-ends
run_with-requires-clause-ends g c = λ within.
    subst (AreGoodEndsOf _ _ _ _) (sym c.new-none.ensures.items) (no_ends _ _ _ _)
