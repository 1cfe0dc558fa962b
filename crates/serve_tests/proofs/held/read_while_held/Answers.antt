use Rattle.star_host.proofs.Shared.{no_ends}
use Rattle.serve_tests.proofs.held.read_while_held.Goals as goal

pub new-common-requires-clause-ends : goal.new-common-requires-clause-ends
new-common-requires-clause-ends g c = no_ends _ _ _ _
