use Rattle.std.proofs.Common.{◌≡◌, length}
use Rattle.std.specs.Char.{is_digit}
use Rattle.std.specs.List.{list_all}
use Rattle.star_strings.specs.Ints.{is_zero, number_from}
use Rattle.star_strings.proofs.ints.without_zeros.Given as goal

abbrev pub invariant-loop-more : goal.invariant-loop-more
invariant-loop-more l = record {
  digits : list_all (λ d. is_digit d l.base) l.rest ≡ list_all (λ d. is_digit d l.base) l.bytes;
  number : number_from l.base 0 l.rest ≡ number_from l.base 0 l.bytes;
  zeros : list_all is_zero l.rest ≡ list_all is_zero l.bytes;
}

abbrev pub decreases-loop-more : goal.decreases-loop-more
decreases-loop-more l = length l.rest
