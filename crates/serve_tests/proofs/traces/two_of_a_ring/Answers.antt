use Rattle.serve_tests.proofs.LoadsItself.{first_refused, second_refused}
use Rattle.serve_tests.proofs.traces.two_of_a_ring.Goals as goal

pub two_are_read-requires-clause-first : goal.two_are_read-requires-clause-first
two_are_read-requires-clause-first g c = first_refused

pub two_are_read-requires-clause-second : goal.two_are_read-requires-clause-second
two_are_read-requires-clause-second g c = second_refused
