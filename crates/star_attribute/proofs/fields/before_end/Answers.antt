use Rattle.star_attribute.proofs.Ends.{end_there}
use Rattle.star_attribute.proofs.fields.before_end.Goals as goal

pub returns : goal.returns
returns c = end_there c.args.end.now c.args.field.now c.strip_suffix.result c.strip_suffix.ensures.cases
