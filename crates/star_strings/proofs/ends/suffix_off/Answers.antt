use Rattle.std.proofs.Common.{Some, None}
use Rattle.star_strings.proofs.Affixes.{suffix_gone}
use Rattle.star_strings.proofs.ends.suffix_off.Goals as goal

pub returns-in-Some : goal.returns-in-Some
returns-in-Some c = suffix_gone c.args.part.now c.args.text.now (Some c.in-Some.rest) c.in-Some.ensures.cases

pub returns-in-None : goal.returns-in-None
returns-in-None c = suffix_gone c.args.part.now c.args.text.now None c.in-None.ensures.cases
