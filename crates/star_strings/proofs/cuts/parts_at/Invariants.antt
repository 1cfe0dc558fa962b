use Rattle.std.proofs.Common.{◌≡◌, ◌++◌, length}
use denote.Shadow.{shadow}
use denote.Text.{Utf8}
use Rattle.star_strings.specs.Texts.{parts}
use Rattle.star_strings.proofs.cuts.parts_at.Given as goal

abbrev pub invariant-loop-before : goal.invariant-loop-before
invariant-loop-before l = record {
  rest : l.made ++ parts l.rest l.by l.left ≡ parts l.text l.by l.fn.cuts;
  text : shadow (Utf8 l.rest);
}

abbrev pub decreases-loop-before : goal.decreases-loop-before
decreases-loop-before l = length l.rest
