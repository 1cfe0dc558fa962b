use Rattle.std.proofs.Common.{rules}
use Rattle.star_data.proofs.Sent.{sends_some}
use Rattle.star_data.proofs.Strings.{string_data}
use Rattle.star_data.proofs.data.write_text.Goals as goal

pub returns-clause-data : goal.returns-clause-data
returns-clause-data c = sends_some _ _ _ _ (string_data c.args.text.now c.utf8.text) (search rules)
