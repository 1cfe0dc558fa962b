use Rattle.std.proofs.Common.{◌≡◌, ◌++◌, length, reverse}
use denote.Shadow.{shadow}
use denote.Text.{Utf8}
use Rattle.star_strings.specs.Words.{rparts}
use Rattle.star_strings.proofs.cuts.parts_from_end.Given as goal

abbrev pub invariant-loop-before : goal.invariant-loop-before
invariant-loop-before l = record {
  rest : rparts l.rest l.by l.left ++ reverse l.made.items ≡ rparts l.text l.by l.fn.cuts;
  text : shadow (Utf8 l.rest);
}

abbrev pub decreases-loop-before : goal.decreases-loop-before
decreases-loop-before l = length l.rest
