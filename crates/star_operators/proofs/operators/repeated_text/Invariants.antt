use Rattle.std.proofs.Common.{◌≡◌, string_bytes}
use Rattle.star_meaning.specs.Operators.{times}
use Rattle.star_operators.proofs.operators.repeated_text.Given as goal

abbrev pub invariant-loop-i : goal.invariant-loop-i
invariant-loop-i l = string_bytes l.made ≡ times l._i l.text
