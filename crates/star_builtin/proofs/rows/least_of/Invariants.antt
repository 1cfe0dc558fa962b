use Rattle.std.proofs.Common.{◌≡◌, ◌∷◌, drop}
use Rattle.star_meaning.specs.BuiltIns.{least}
use Rattle.star_builtin.proofs.rows.least_of.Given as goal

abbrev pub invariant-loop-number : goal.invariant-loop-number
invariant-loop-number l = least (l.least ∷ drop l.number-index l.rest) ≡ least (l.fn.first ∷ l.rest)
