use Rattle.std.proofs.Common.{◌≡◌, drop, map, nat_eq}
use Rattle.std.specs.Cmp.Lexicographic.{pointwise}
use Rattle.star_strings.specs.Strings.{lower}
use Rattle.star_strings.proofs.cases.is_small.Given as goal

abbrev pub invariant-loop-byte : goal.invariant-loop-byte
invariant-loop-byte l = pointwise nat_eq (map lower (drop l.byte-index l.bytes)) (drop l.byte-index l.bytes) ≡ pointwise nat_eq (map lower l.bytes) l.bytes
