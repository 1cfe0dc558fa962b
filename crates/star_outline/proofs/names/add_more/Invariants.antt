use Rattle.std.proofs.Common.{◌≡◌, drop}
use Rattle.star_outline.specs.Names.{with_names}
use Rattle.star_outline.specs.Outlines.{more_names}
use Rattle.star_outline.proofs.names.add_more.Given as goal

abbrev pub invariant-loop-clause : goal.invariant-loop-clause
invariant-loop-clause l = with_names l.names (more_names (drop l.clause-index l.clauses)) ≡ with_names l.fn.names (more_names l.clauses)
