use Rattle.std.proofs.Common.{◌≡◌, drop}
use Rattle.star_machine.specs.Refines.{with_front}
use Rattle.star_meaning.specs.Run.{each}
use Rattle.star_meaning.specs.Sets.{take_elements}
use Rattle.star_machine.proofs.sets.take_each.Given as goal

abbrev pub invariant-loop-other : goal.invariant-loop-other
invariant-loop-other l =
    let f = take_elements l.setting l.levels l.line in
    with_front l.rows.items (each f (drop l.other-index l.others) l.machine) ≡ each f l.others l.fn.machine
