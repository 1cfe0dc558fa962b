use Rattle.std.proofs.Common.{◌≡◌, ◌++◌, drop}
use Rattle.star_call.specs.BoundArguments.{all_named}
use Rattle.star_enter.specs.Ordered.{extra_in_order}
use Rattle.star_enter.proofs.ordered.all_extra_in_order.Given as goal

abbrev pub invariant-loop-value : goal.invariant-loop-value
invariant-loop-value l =
    let o = l.order in
    all_named l.left.items ++ extra_in_order o.layout.now o.names.now (drop l.value-index l.named) ≡ extra_in_order o.layout.now o.names.now l.named
