use Rattle.std.proofs.Common.{◌≡◌, ◌-◌}
use Rattle.star_meaning.specs.Run.{collect}
use Rattle.star_machine.specs.Refines.{with_front}
use Rattle.star_meaning.specs.Values.{take_item}
use Rattle.star_machine.proofs.machine.Machine.take_items.Given as goal

abbrev pub invariant-loop-i : goal.invariant-loop-i
invariant-loop-i l =
    let f = take_item l.setting l.line l.value in
    with_front l.items.items (collect f (l.count - l.i) l.i l.self) ≡ collect f l.count 0 l.fn.self
