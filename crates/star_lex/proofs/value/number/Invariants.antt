use Rattle.std.proofs.Common.{◌≡◌, ◌≤◌, length}
use Rattle.star_lex.specs.Values.{at_most, number}
use Rattle.star_lex.proofs.value.number.Given as goal

abbrev pub invariant-loop-rest : goal.invariant-loop-rest
invariant-loop-rest l = record { whole : at_most l.most (number l.base 0 l.text) ≡ at_most l.most (number l.base l.value l.rest); within : l.value ≤ l.most }

abbrev pub decreases-loop-rest : goal.decreases-loop-rest
decreases-loop-rest l = length l.rest
