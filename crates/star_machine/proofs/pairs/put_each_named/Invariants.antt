use Rattle.std.proofs.Common.{◌≡◌, drop}
use Rattle.star_meaning.specs.Pairs.{put_named}
use Rattle.star_meaning.specs.Run.{all_of}
use Rattle.star_machine.proofs.pairs.put_each_named.Given as goal

abbrev pub invariant-loop-value : goal.invariant-loop-value
invariant-loop-value l =
    let f = put_named l.setting l.line l.dict in
    all_of f (drop l.value-index l.named) l.machine ≡ all_of f l.named l.fn.machine
