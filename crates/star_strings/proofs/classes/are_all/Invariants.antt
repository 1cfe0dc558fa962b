use Rattle.std.proofs.Common.{◌≡◌, drop}
use Rattle.std.specs.List.{list_all}
use Rattle.star_strings.specs.Strings.{in_class}
use Rattle.star_strings.proofs.classes.are_all.Given as goal

abbrev pub invariant-loop-byte : goal.invariant-loop-byte
invariant-loop-byte l = list_all (in_class l.class) (drop l.byte-index l.bytes) ≡ list_all (in_class l.class) l.bytes
