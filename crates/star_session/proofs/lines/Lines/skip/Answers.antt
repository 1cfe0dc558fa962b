use Rattle.std.proofs.Common.{◌≤◌, ◌-◌, arith}
use Rattle.star_session.proofs.Ahead.{rest}
use Rattle.star_session.proofs.lines.Lines.skip.Goals as goal

pub returns-clause-ahead : goal.returns-clause-ahead
returns-clause-ahead c =
    let lines = c.args.self.now in
    let some : 1 ≤ lines.end - lines.start = omega (arith, c.requires.some) in
    rest lines.buffer.items lines.start lines.end 1 some
