use Rattle.std.proofs.Common.{◌≡◌, drop}
use Rattle.star_meaning.specs.DictMethods.{pair_up}
use Rattle.star_machine.specs.Refines.{with_front}
use Rattle.star_meaning.specs.Run.{each}
use Rattle.star_method.proofs.dicts.pairs_up.Given as goal

abbrev pub invariant-loop-entry : goal.invariant-loop-entry
invariant-loop-entry l =
    let f = pair_up l.line in
    with_front l.pairs.items (each f (drop l.entry-index l.entries) l.machine) ≡ each f l.entries l.fn.machine
