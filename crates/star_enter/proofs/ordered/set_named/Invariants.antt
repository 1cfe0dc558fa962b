use Rattle.std.proofs.Common.{◌≡◌, length}
use Rattle.star_enter.specs.Ordered.{AreTaken, with_named}
use Rattle.star_enter.proofs.ordered.set_named.Given as goal

abbrev pub invariant-loop-last : goal.invariant-loop-last
invariant-loop-last l =
    let o = l.order in
    (with_named o.layout.now o.names.now l.rest l.slots ≡ with_named o.layout.now o.names.now l.named l.fn.slots)
    × (AreTaken o.layout.now o.names.now l.from l.rest → AreTaken o.layout.now o.names.now l.from l.named)

abbrev pub decreases-loop-last : goal.decreases-loop-last
decreases-loop-last l = length l.rest
