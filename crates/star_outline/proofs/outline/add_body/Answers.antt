use Rattle.std.proofs.Common.{sym, ap, ◌∙◌}
use Rattle.star_outline.specs.Names.{with_names}
use Rattle.star_outline.specs.Outlines.{body_names}
use Rattle.star_outline.specs.Definitions.{body_of}
use Rattle.star_outline.proofs.BoundNames.{with_none}
use Rattle.star_outline.proofs.outline.add_body.Goals as goal

pub returns-in-Answer : goal.returns-in-Answer
returns-in-Answer c = sym (ap (λ b. with_names c.args.names.now (body_names (body_of b))) c.in-Answer.is ∙ with_none c.args.names.now)
