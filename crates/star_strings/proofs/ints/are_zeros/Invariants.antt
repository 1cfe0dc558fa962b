use Rattle.std.proofs.Common.{◌≡◌, drop}
use Rattle.std.specs.List.{list_all}
use Rattle.star_strings.specs.Ints.{is_zero}
use Rattle.star_strings.proofs.ints.are_zeros.Given as goal

abbrev pub invariant-loop-byte : goal.invariant-loop-byte
invariant-loop-byte l = list_all is_zero (drop l.byte-index l.bytes) ≡ list_all is_zero l.bytes
