use Rattle.std.proofs.Common.{◌≡◌, ◌++◌, length}
use Rattle.star_lex.specs.Values.{decoded}
use Rattle.star_lex.proofs.value.decoded.Given as goal

abbrev pub invariant-parts : goal.invariant-parts
invariant-parts l = decoded l.quoting l.text ≡ l.out.items ++ decoded l.quoting l.rest

abbrev pub decreases-parts : goal.decreases-parts
decreases-parts l = length l.rest
