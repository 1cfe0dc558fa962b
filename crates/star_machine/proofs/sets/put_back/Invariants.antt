use Rattle.std.proofs.Common.{◌≡◌, drop}
use Rattle.star_meaning.specs.Run.{all_of}
use Rattle.star_meaning.specs.Sets.{put_back}
use Rattle.star_machine.proofs.sets.put_back.Given as goal

abbrev pub invariant-loop-entry : goal.invariant-loop-entry
invariant-loop-entry l =
    let f = put_back l.setting l.line l.set in
    all_of f (drop l.entry-index l.elements) l.machine ≡ all_of f l.elements l.fn.machine
