use Rattle.star_session.proofs.Ahead.{rest}
use Rattle.star_session.proofs.lines.Lines.add.Goals as goal

pub returns-clause-ahead : goal.returns-clause-ahead
returns-clause-ahead c = rest c.args.self.now.buffer.items c.args.self.now.start c.args.self.now.end c.args.count c.requires.within
