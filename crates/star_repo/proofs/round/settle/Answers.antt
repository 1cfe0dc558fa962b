use Rattle.std.proofs.Common.{refl}
use Rattle.star_repo.proofs.round.settle.Goals as goal

pub returns-clause-looked : goal.returns-clause-looked
returns-clause-looked c = (record { text = c.args.fresh.1; parsed = c.args.parsed }, refl, refl, c.in_ok-insert.ensures.entries)
