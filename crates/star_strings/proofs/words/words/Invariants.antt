use Rattle.std.proofs.Common.{◌≡◌, ◌++◌, length}
use denote.Shadow.{shadow}
use denote.Text.{Utf8}
use Rattle.star_strings.specs.Words.{words}
use Rattle.star_strings.proofs.words.words.Given as goal

abbrev pub invariant-loop-word : goal.invariant-loop-word
invariant-loop-word l = record {
  rest : l.made.items ++ words l.left l.rest ≡ words l.fn.cuts l.text;
  text : shadow (Utf8 l.rest);
}

abbrev pub decreases-loop-word : goal.decreases-loop-word
decreases-loop-word l = length l.rest
