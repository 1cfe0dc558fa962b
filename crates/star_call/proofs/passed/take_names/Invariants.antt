use Rattle.std.proofs.Common.{◌≡◌, take, drop}
use Rattle.star_meaning.specs.Arguments.{take_names}
use Rattle.star_machine.specs.Refines.{with_front}
use Rattle.star_call.proofs.passed.take_names.Given as goal

abbrev pub invariant-loop-name : goal.invariant-loop-name
invariant-loop-name l = with_front (take l._name-index l.fn.names.items) (take_names l.line (drop l._name-index l.fn.names.items) l.machine) ≡ take_names l.line l.fn.names.items l.fn.machine
