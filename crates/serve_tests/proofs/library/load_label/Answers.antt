use Rattle.star_host.proofs.Shared.{no_ends}
use Rattle.serve_tests.proofs.library.load_label.Goals as goal

pub new-common-requires-clause-ends : goal.new-common-requires-clause-ends
new-common-requires-clause-ends g c = no_ends _ _ _ _
