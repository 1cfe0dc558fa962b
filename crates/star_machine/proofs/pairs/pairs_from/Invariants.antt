use Rattle.std.proofs.Common.{◌≡◌, drop}
use Rattle.star_machine.specs.Refines.{with_front}
use Rattle.star_meaning.specs.Pairs.{pair_of}
use Rattle.star_meaning.specs.Run.{each}
use Rattle.star_machine.proofs.pairs.pairs_from.Given as goal

abbrev pub invariant-loop-item : goal.invariant-loop-item
invariant-loop-item l =
    let f = pair_of l.setting l.line in
    with_front l.pairs (each f (drop l.item-index l.items) l.machine) ≡ each f l.items l.fn.machine
