use Rattle.std.proofs.Common.{ap, sym, ◌∙◌}
use Rattle.star_tree.specs.declared.tree.Statement.{out-Statement}
use Rattle.star_outline.specs.Names.{with_names}
use Rattle.star_outline.proofs.BoundNames.{with_none}
use Rattle.star_outline.proofs.OwnLoads.{loads_none}
use Rattle.star_scope.proofs.program.add_own_loads.Goals as goal

pub returns-in_default : goal.returns-in_default
returns-in_default c = sym (ap (with_names c.args.names.now) (loads_none (out-Statement c.args.statement.now).form c.in_default.not-Load) ∙ with_none c.args.names.now)
