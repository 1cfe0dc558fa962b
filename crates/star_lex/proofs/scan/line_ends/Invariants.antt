use Rattle.std.proofs.Common.{◌≡◌, ◌+◌, ◌≤◌, length}
use Rattle.star_lex.specs.Pieces.{line_ends}
use Rattle.star_lex.proofs.scan.line_ends.Given as goal

abbrev pub invariant-loop-rest : goal.invariant-loop-rest
invariant-loop-rest l = record { whole : l.count + line_ends l.rest ≡ line_ends l.text; within : l.count + length l.rest ≤ length l.text }

abbrev pub decreases-loop-rest : goal.decreases-loop-rest
decreases-loop-rest l = length l.rest
