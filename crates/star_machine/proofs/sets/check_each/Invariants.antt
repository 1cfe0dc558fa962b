use Rattle.std.proofs.Common.{◌≡◌, drop}
use Rattle.star_meaning.specs.Run.{all_of}
use Rattle.star_meaning.specs.Values.{check_key}
use Rattle.star_machine.proofs.sets.check_each.Given as goal

abbrev pub invariant-loop-item : goal.invariant-loop-item
invariant-loop-item l =
    let f = check_key l.setting l.levels l.line in
    all_of f (drop l.item-index l.items) l.machine ≡ all_of f l.items l.fn.machine
