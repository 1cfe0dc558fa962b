use Rattle.std.proofs.Common.{ap, sym, ◌∙◌}
use Rattle.star_tree.specs.declared.tree.Statement.{out-Statement}
use Rattle.star_outline.specs.Syntax.{position_of}
use Rattle.star_outline.specs.Outlines.{and}
use Rattle.star_outline.proofs.OutlineLevels.{and_nothing}
use Rattle.star_outline.proofs.OutlineStatements.{no_definition}
use Rattle.star_outline.proofs.outline.add_own.Goals as goal

pub returns-in_default : goal.returns-in_default
returns-in_default c =
    sym (ap (and c.args.found.now) (no_definition (position_of c.args.statement.now) (out-Statement c.args.statement.now).form c.in_default.not-Def) ∙ and_nothing c.args.found.now)
