use Rattle.std.proofs.Common.{◌≡◌, ◌++◌, drop}
use Rattle.star_meaning.specs.Sets.{those_in}
use Rattle.star_machine.proofs.sets.those_in.Given as goal

abbrev pub invariant-loop-entry : goal.invariant-loop-entry
invariant-loop-entry l =
    l.found ++ those_in l.setting l.machine l.other.entries (drop l.entry-index l.entry-items) ≡ those_in l.setting l.machine l.other.entries l.elements
