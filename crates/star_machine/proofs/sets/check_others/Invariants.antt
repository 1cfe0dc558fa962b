use Rattle.std.proofs.Common.{◌≡◌, drop}
use Rattle.star_meaning.specs.Run.{all_of}
use Rattle.star_meaning.specs.Sets.{check_other}
use Rattle.star_machine.proofs.sets.check_others.Given as goal

abbrev pub invariant-loop-other : goal.invariant-loop-other
invariant-loop-other l =
    let f = check_other l.setting l.line in
    all_of f (drop l.other-index l.others) l.machine ≡ all_of f l.others l.machine
