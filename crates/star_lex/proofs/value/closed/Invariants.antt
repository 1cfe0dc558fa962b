use Rattle.std.proofs.Common.{◌≡◌, ◌-◌, ◌≤◌, length}
use Rattle.star_lex.specs.Values.{closed, more}
use Rattle.star_lex.proofs.value.closed.Given as goal

abbrev pub invariant-loop-rest : goal.invariant-loop-rest
invariant-loop-rest l = record { whole : closed l.quoting l.text ≡ more (length l.text - length l.rest) (closed l.quoting l.rest); within : length l.rest ≤ length l.text }

abbrev pub decreases-loop-rest : goal.decreases-loop-rest
decreases-loop-rest l = length l.rest
