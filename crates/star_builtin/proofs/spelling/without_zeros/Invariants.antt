use Rattle.std.proofs.Common.{◌≡◌, length}
use Rattle.std.specs.List.{list_all}
use Rattle.star_meaning.specs.Spelling.{is_digit, number_from}
use Rattle.star_builtin.proofs.spelling.without_zeros.Given as goal

abbrev pub invariant-loop-rest : goal.invariant-loop-rest
invariant-loop-rest l = record {
  digits : list_all is_digit l.rest ≡ list_all is_digit l.bytes;
  number : number_from 0 l.rest ≡ number_from 0 l.bytes;
}

abbrev pub decreases-loop-rest : goal.decreases-loop-rest
decreases-loop-rest l = length l.rest
