use Rattle.std.proofs.Common.{◌≡◌, drop}
use Rattle.std.specs.Char.{is_digit}
use Rattle.std.specs.List.{list_all}
use Rattle.star_strings.proofs.ints.are_digits.Given as goal

abbrev pub invariant-loop-byte : goal.invariant-loop-byte
invariant-loop-byte l = list_all (λ d. is_digit d l.base) (drop l.byte-index l.bytes) ≡ list_all (λ d. is_digit d l.base) l.bytes
