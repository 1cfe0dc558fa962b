use Rattle.std.proofs.Common.{◌≡◌, ◌<◌, ◌^◌, drop}
use Rattle.star_meaning.specs.Spelling.{number_from}
use Rattle.star_builtin.proofs.spelling.number_from.Given as goal

abbrev pub invariant-loop-digit : goal.invariant-loop-digit
invariant-loop-digit l = record {
  rest : number_from l.number (drop l.digit-index l.digits) ≡ number_from 0 l.digits;
  small : l.number < 2 ^ 64;
}
