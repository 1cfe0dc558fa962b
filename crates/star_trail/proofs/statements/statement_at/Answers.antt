use Rattle.star_trail.specs.Trails.{inner, outermost}
use Rattle.star_trail.proofs.statements.statement_at.Goals as goal

pub loop-init : goal.loop-init
loop-init c = λ s h. outermost h

pub loop-preserved : goal.loop-preserved
loop-preserved c = λ s h. inner (c.loop.invariant c.in_ok-statement.statement.now c.in_ok-statement.ensures) (c.block_at-block.ensures s h)
