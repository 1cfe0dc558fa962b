use Rattle.std.proofs.Common.{ap, sym, ◌∙◌}
use Rattle.star_outline.specs.Names.{with_names}
use Rattle.star_outline.specs.Outlines.{clause_names}
use Rattle.star_outline.proofs.BoundNames.{of_condition, with_none}
use Rattle.star_outline.proofs.names.add_clause.Goals as goal

pub returns-in-If : goal.returns-in-If
returns-in-If c = sym (ap (with_names c.args.names.now) (ap clause_names c.in-If.is ∙ of_condition _) ∙ with_none c.args.names.now)
