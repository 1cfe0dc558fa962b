use Rattle.std.proofs.Common.{◌≡◌, drop}
use Rattle.star_meaning.specs.Run.{all_of}
use Rattle.star_meaning.specs.Sets.{put_element}
use Rattle.star_machine.proofs.sets.put_elements.Given as goal

abbrev pub invariant-loop-item : goal.invariant-loop-item
invariant-loop-item l =
    let f = put_element l.setting l.line l.set in
    all_of f (drop l.item-index l.items) l.machine ≡ all_of f l.items l.fn.machine
