use Rattle.std.proofs.Common.{◌≡◌, drop}
use Rattle.star_strings.specs.Ints.{hash_from}
use Rattle.star_strings.proofs.ints.hash_of.Given as goal

abbrev pub invariant-loop-byte : goal.invariant-loop-byte
invariant-loop-byte l = hash_from l.number (drop l.byte-index l.bytes) ≡ hash_from 0 l.bytes
