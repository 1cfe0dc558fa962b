use Rattle.std.proofs.Common.{◌≡◌, ◌+◌, length}
use Rattle.star_lex.specs.Lines.{closing, more_closed}
use Rattle.star_lex.proofs.lay.closing.Given as goal

abbrev pub invariant-loop-rest : goal.invariant-loop-rest
invariant-loop-rest l = record { whole : closing l.opened l.width ≡ more_closed l.count (closing l.rest l.width); size : l.count + length l.rest ≡ length l.opened }

abbrev pub decreases-loop-rest : goal.decreases-loop-rest
decreases-loop-rest l = length l.rest
