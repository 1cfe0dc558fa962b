use Rattle.std.proofs.Common.{refl}
use Rattle.star_outline.specs.Outlines.{clause_names, more_names}
use Rattle.star_outline.proofs.BoundNames.{names_turn, names_done}
use Rattle.star_outline.proofs.names.add_more.Goals as goal

pub loop-clause-preserved : goal.loop-clause-preserved
loop-clause-preserved c =
    names_turn clause_names more_names (λ x xs. refl) c.args.clauses.now c.loop-clause.clause-index c.clause-item.result c.loop-clause.names c.add_clause.new.names _ c.loop-clause-test.true c.clause-item.is c.in_ok-add_clause.ensures c.loop-clause.invariant

pub returns : goal.returns
returns c = names_done more_names c.args.clauses.now c.loop-clause.clause-index c.loop-clause.names _ refl c.loop-clause-test.false c.loop-clause.invariant
