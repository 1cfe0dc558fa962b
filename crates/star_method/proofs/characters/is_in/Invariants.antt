use Rattle.std.proofs.Common.{◌≡◌, length}
use denote.Shadow.{shadow}
use denote.Text.{Utf8}
use Rattle.star_meaning.specs.Texts.{characters}
use Rattle.star_outline.specs.Names.{same_name}
use Rattle.std.specs.List.{list_any}
use Rattle.star_method.proofs.characters.is_in.Given as goal

abbrev pub invariant-loop-first : goal.invariant-loop-first
invariant-loop-first l = record { rest : list_any (same_name l.character) (characters l.rest) ≡ list_any (same_name l.character) (characters l.text); text : shadow (Utf8 l.rest) }

abbrev pub decreases-loop-first : goal.decreases-loop-first
decreases-loop-first l = length l.rest
