use Rattle.std.proofs.Common.{◌≡◌, ◌++◌, ◌-◌}
use Rattle.star_store.specs.Range.{range_length}
use Rattle.star_operators.specs.Slices.{as_range}
use Rattle.star_meaning.specs.Subscript.{picked, places_of, places_from}
use Rattle.star_operators.proofs.slices.picked_from.Given as goal

abbrev pub invariant-loop-i : goal.invariant-loop-i
invariant-loop-i l =
    let r = as_range l.span in
    l.made.items ++ picked l.items (places_from r (range_length r - l.i) l.i) ≡ picked l.items (places_of r)
