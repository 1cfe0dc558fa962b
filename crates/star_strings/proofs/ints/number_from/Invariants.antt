use Rattle.std.proofs.Common.{◌≡◌, ◌<◌, ◌^◌, drop}
use Rattle.star_strings.specs.Ints.{number_from}
use Rattle.star_strings.proofs.ints.number_from.Given as goal

abbrev pub invariant-loop-digit : goal.invariant-loop-digit
invariant-loop-digit l = record {
  rest : number_from l.base l.number (drop l.digit-index l.digits) ≡ number_from l.base 0 l.digits;
  small : l.number < 2 ^ 64;
}
