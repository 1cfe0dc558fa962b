use Rattle.std.proofs.Common.{◌≡◌, ◌+◌, length}
use Rattle.star_lex.specs.Values.{starts_with}
use Rattle.star_lex.proofs.prefix.starts_with.Given as goal

abbrev pub invariant-loop-left : goal.invariant-loop-left
invariant-loop-left l = record { whole : starts_with l.left l.rest ≡ starts_with l.front l.text; same : length l.left + length l.text ≡ length l.rest + length l.front }

abbrev pub decreases-loop-left : goal.decreases-loop-left
decreases-loop-left l = length l.left
