use Rattle.std.proofs.Common.{◌≡◌, ◌++◌, drop}
use Rattle.star_meaning.specs.Sets.{new_to}
use Rattle.star_machine.proofs.sets.new_to.Given as goal

abbrev pub invariant-loop-item : goal.invariant-loop-item
invariant-loop-item l =
    let rest = drop l.item-index l.items in
    l.found.items ++ new_to l.setting l.machine l.elements.entries rest ≡ new_to l.setting l.machine l.elements.entries l.items
