use Rattle.std.proofs.Common.{◌≡◌, length}
use denote.Shadow.{shadow}
use denote.Text.{Utf8}
use Rattle.star_meaning.specs.Texts.{characters, without_front}
use Rattle.star_method.specs.Sets.{test_of}
use Rattle.star_method.proofs.characters.without_front.Given as goal

abbrev pub invariant-loop-first : goal.invariant-loop-first
invariant-loop-first l = record { rest : without_front (test_of l.set) (characters l.rest) ≡ without_front (test_of l.set) (characters l.text); text : shadow (Utf8 l.rest) }

abbrev pub decreases-loop-first : goal.decreases-loop-first
decreases-loop-first l = length l.rest
