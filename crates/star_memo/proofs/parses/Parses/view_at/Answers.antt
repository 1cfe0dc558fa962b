use Rattle.std.proofs.Common.{rules}
use Rattle.star_label.specs.Files.{text_at}
use Rattle.star_memo.proofs.parses.Parses.view_at.Goals as goal

pub returns-in-Some-clause-parsed : goal.returns-in-Some-clause-parsed
returns-in-Some-clause-parsed c = c.view.ensures (text_at c.args.files.now c.args.n) (search rules)
