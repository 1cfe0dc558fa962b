use Rattle.star_visit.proofs.Sheets.{begun_long}
use Rattle.star_visit.proofs.line.line_length.Goals as goal

pub returns : goal.returns
returns c = begun_long c.args.prefix.now c.args.indent.now c.args.depth
