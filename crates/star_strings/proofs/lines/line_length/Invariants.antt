use Rattle.std.proofs.Common.{◌≡◌, take, true}
use Rattle.std.specs.List.{list_all}
use Rattle.star_strings.specs.Cuts.{goes_on}
use Rattle.star_strings.proofs.lines.line_length.Given as goal

abbrev pub invariant-loop-at : goal.invariant-loop-at
invariant-loop-at l = list_all goes_on (take l.at l.bytes) ≡ true
