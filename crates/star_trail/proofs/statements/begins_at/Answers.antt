use Rattle.star_outline.specs.Syntax.{position_of}
use Rattle.star_trail.proofs.Within.{at_position}
use Rattle.star_trail.proofs.statements.begins_at.Goals as goal

pub returns-in-Some : goal.returns-in-Some
returns-in-Some c = λ same. record {
  statement = c.in-Some.statement.now;
  is_own = c.in-Some.ensures.own;
  here = at_position (position_of c.in-Some.statement.now) c.args.line c.args.token same c.in-Some.ensures.token;
}
