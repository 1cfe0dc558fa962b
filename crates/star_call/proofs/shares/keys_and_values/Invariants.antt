use Rattle.std.proofs.Common.{◌≡◌, drop}
use Rattle.star_meaning.specs.Binding.{key_and_value}
use Rattle.star_machine.specs.Refines.{with_front}
use Rattle.star_meaning.specs.Run.{each}
use Rattle.star_call.specs.BoundArguments.{all_named}
use Rattle.star_call.proofs.shares.keys_and_values.Given as goal

abbrev pub invariant-loop-value : goal.invariant-loop-value
invariant-loop-value l =
    let f = key_and_value l.line in
    with_front l.entries (each f (all_named (drop l.value-index l.named)) l.machine) ≡ each f (all_named l.named) l.fn.machine
