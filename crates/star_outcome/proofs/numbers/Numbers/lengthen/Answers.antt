use Rattle.std.proofs.Common.{◌≤◌, length, rules}
use Rattle.star_outcome.proofs.Bits.{has_widened}
use Rattle.star_outcome.proofs.numbers.Numbers.lengthen.Goals as goal

pub returns-in_ok-resize-clause-same : goal.returns-in_ok-resize-clause-same
returns-in_ok-resize-clause-same c =
    let short : length c.self.inside.words.items ≤ c.args.count = search rules in
    rw (← c.self.view_is) (has_widened c.self.inside.words.items c.resize.new.self.items c.args.count _ short c.in_ok-resize.ensures.items)
