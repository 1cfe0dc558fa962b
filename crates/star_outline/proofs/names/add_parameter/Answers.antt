use Rattle.std.proofs.Common.{ap, sym, ◌∙◌}
use Rattle.star_outline.specs.Names.{with_names}
use Rattle.star_outline.specs.Outlines.{parameter_names}
use Rattle.star_outline.proofs.BoundNames.{of_BareStar, with_none}
use Rattle.star_outline.proofs.names.add_parameter.Goals as goal

pub returns-in-BareStar : goal.returns-in-BareStar
returns-in-BareStar c = sym (ap (with_names c.args.names.now) (ap parameter_names c.in-BareStar.is ∙ of_BareStar) ∙ with_none c.args.names.now)
