use Rattle.std.proofs.Common.{◌≡◌, ◌++◌, drop}
use Rattle.star_meaning.specs.Sets.{those_out}
use Rattle.star_machine.proofs.sets.those_out.Given as goal

abbrev pub invariant-loop-entry : goal.invariant-loop-entry
invariant-loop-entry l =
    l.found ++ those_out l.setting l.machine l.other.entries (drop l.entry-index l.entry-items) ≡ those_out l.setting l.machine l.other.entries l.elements
