use Rattle.std.proofs.Common.{◌≡◌, ◌++◌, length, reverse}
use denote.Shadow.{shadow}
use denote.Text.{Utf8}
use Rattle.star_strings.specs.Words.{rwords}
use Rattle.star_strings.proofs.words.words_from_end.Given as goal

abbrev pub invariant-loop-before : goal.invariant-loop-before
invariant-loop-before l = record {
  rest : rwords l.left l.rest ++ reverse l.made.items ≡ rwords l.fn.cuts l.text;
  text : shadow (Utf8 l.rest);
}

abbrev pub decreases-loop-before : goal.decreases-loop-before
decreases-loop-before l = length l.rest
