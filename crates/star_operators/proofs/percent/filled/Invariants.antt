use Rattle.std.proofs.Common.{◌≡◌, [], length}
use denote.Shadow.{shadow}
use denote.Text.{Utf8}
use Rattle.star_meaning.specs.Percent.{Between, filled}
use Rattle.star_operators.proofs.percent.filled.Given as goal

abbrev pub invariant-loop-before : goal.invariant-loop-before
invariant-loop-before l = record {
  rest : filled l.setting l.levels l.line l.right Between l.rest l.left l.out l.machine ≡ filled l.setting l.levels l.line l.right Between l.format l.values [] l.fn.machine;
  text : shadow (Utf8 l.rest);
}

abbrev pub decreases-loop-before : goal.decreases-loop-before
decreases-loop-before l = length l.rest
