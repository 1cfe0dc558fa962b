use Rattle.std.proofs.Common.{◌≡◌, length}
use denote.Shadow.{shadow}
use denote.Text.{Utf8}
use Rattle.star_meaning.specs.Texts.{characters, without_end}
use Rattle.star_method.specs.Sets.{test_of}
use Rattle.star_method.proofs.characters.without_end.Given as goal

abbrev pub invariant-loop-before : goal.invariant-loop-before
invariant-loop-before l = record { rest : without_end (test_of l.set) (characters l.rest) ≡ without_end (test_of l.set) (characters l.text); text : shadow (Utf8 l.rest) }

abbrev pub decreases-loop-before : goal.decreases-loop-before
decreases-loop-before l = length l.rest
