use Rattle.std.proofs.Common.{◌≡◌, drop}
use Rattle.std.specs.List.{list_any}
use Rattle.std.specs.Char.{is_ascii_alphabetic}
use Rattle.star_strings.proofs.cases.has_letter.Given as goal

abbrev pub invariant-loop-byte : goal.invariant-loop-byte
invariant-loop-byte l = list_any is_ascii_alphabetic (drop l.byte-index l.bytes) ≡ list_any is_ascii_alphabetic l.bytes
