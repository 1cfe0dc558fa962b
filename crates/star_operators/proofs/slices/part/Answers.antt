use Rattle.std.proofs.Common.{rules}
use Rattle.star_operators.proofs.Slicing.{whole_part}
use Rattle.star_operators.proofs.slices.part.Goals as goal

pub returns : goal.returns
returns c = whole_part c.args.text.now c.in_ok-new-2.field-0 c.args.start c.args.stop (search rules) (search rules) (search rules) (search rules) (search rules)
