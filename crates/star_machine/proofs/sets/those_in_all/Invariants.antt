use Rattle.std.proofs.Common.{◌≡◌, drop}
use Rattle.star_meaning.specs.Sets.{those_in_all}
use Rattle.star_machine.proofs.sets.those_in_all.Given as goal

abbrev pub invariant-loop-items : goal.invariant-loop-items
invariant-loop-items l =
    those_in_all l.setting l.machine l.kept (drop l.items-index l.others) ≡ those_in_all l.setting l.machine l.fn.elements l.others
