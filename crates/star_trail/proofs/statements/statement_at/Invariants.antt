use Rattle.std.proofs.Common.{Contains}
use Rattle.star_tree.specs.declared.tree.Statement.{Statement}
use Rattle.star_trail.specs.Trails.{IsStatementOf}
use Rattle.star_trail.proofs.statements.statement_at.Given as goal

-- the statements of the block are statements of the file
abbrev pub invariant-loop : goal.invariant-loop
invariant-loop l = (s : Statement) → Contains l.block s → IsStatementOf l.statements s
