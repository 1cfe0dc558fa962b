use Rattle.std.proofs.Common.{◌≡◌, drop}
use Rattle.star_machine.specs.Refines.{with_front}
use Rattle.star_meaning.specs.Run.{each}
use Rattle.star_machine.specs.Pairs.{taken_entry}
use Rattle.star_machine.proofs.pairs.taken_entries.Given as goal

abbrev pub invariant-loop-entry : goal.invariant-loop-entry
invariant-loop-entry l =
    let f = taken_entry l.line in
    with_front l.taken (each f (drop l.entry-index l.entries) l.machine) ≡ each f l.entries l.fn.machine
