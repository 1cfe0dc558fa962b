-- The order of the parts that hold themselves: a statement begins with expressions.
use Rattle.std.proofs.Common.{ℕ}
use Rattle.star_syntax.specs.Grammar.{Rule, level, statement}

abbrev pub rank : Rule → ℕ
rank (level l) = 0
rank statement = 1
