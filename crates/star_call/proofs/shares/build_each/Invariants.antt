use Rattle.std.proofs.Common.{◌≡◌, map, drop}
use Rattle.star_meaning.specs.Binding.{build_arguments}
use Rattle.star_machine.specs.Refines.{with_front}
use Rattle.star_call.specs.BoundArguments.{all_named, all_shown, bound_value}
use Rattle.star_call.proofs.shares.build_each.Given as goal

abbrev pub invariant-loop-name : goal.invariant-loop-name
invariant-loop-name l =
    let left = all_named l.left in
    with_front (map bound_value l.values.items) (build_arguments l.line (all_shown left (drop l.name-index l.shares)) l.machine) ≡ build_arguments l.line (all_shown left l.shares) l.fn.machine
