use Rattle.std.proofs.Common.{sym, subst}
use Rattle.star_syntax.specs.Written.{EndsBefore, new-line}
use Rattle.star_syntax.proofs.reader.ends.Goals as goal

pub returns-in-Newline : goal.returns-in-Newline
returns-in-Newline c = λ _. subst EndsBefore (sym c.in-Newline.is) new-line
