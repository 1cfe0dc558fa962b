use Rattle.std.proofs.Common.{◌≡◌, drop, map, nat_eq}
use Rattle.std.specs.Cmp.Lexicographic.{pointwise}
use Rattle.star_strings.specs.Strings.{upper}
use Rattle.star_strings.proofs.cases.is_large.Given as goal

abbrev pub invariant-loop-byte : goal.invariant-loop-byte
invariant-loop-byte l = pointwise nat_eq (map upper (drop l.byte-index l.bytes)) (drop l.byte-index l.bytes) ≡ pointwise nat_eq (map upper l.bytes) l.bytes
