use Rattle.std.proofs.Common.{◌≡◌, drop}
use Rattle.star_meaning.specs.Pairs.{put_pair}
use Rattle.star_meaning.specs.Run.{all_of}
use Rattle.star_machine.proofs.pairs.put_each.Given as goal

abbrev pub invariant-loop-pair : goal.invariant-loop-pair
invariant-loop-pair l =
    let f = put_pair l.setting l.levels l.line l.dict l.are_keys in
    all_of f (drop l.pair-index l.pairs) l.machine ≡ all_of f l.pairs l.fn.machine
