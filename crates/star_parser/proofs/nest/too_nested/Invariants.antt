use Rattle.std.proofs.Common.{◌≡◌, ◌-◌, ◌≤◌, length}
use Rattle.star_parser.specs.Nesting.{too_nested, passes, state, Within}
use Rattle.star_parser.proofs.nest.too_nested.Given as goal

abbrev pub invariant-loop-rest : goal.invariant-loop-rest
invariant-loop-rest l =
    (too_nested l.fn.tokens ≡ passes (state l.nesting) l.rest)
    × Within (length l.fn.tokens - length l.rest) (state l.nesting)
    × (length l.rest ≤ length l.fn.tokens)

abbrev pub decreases-loop-rest : goal.decreases-loop-rest
decreases-loop-rest l = length l.rest
