use Rattle.std.proofs.Common.{◌≡◌, ℕ, ◌||◌, List, length}
use denote.Shadow.{shadow}
use denote.Text.{Utf8}
use Rattle.std.specs.List.{list_any}
use Rattle.star_outline.specs.Names.{same_name}
use Rattle.star_meaning.specs.Texts.{characters}
use Rattle.star_method.specs.Sets.{has}
use Rattle.star_method.proofs.characters.characters_of.Given as goal

abbrev pub invariant-loop-first : goal.invariant-loop-first
invariant-loop-first l = record {
  rest : (q : List ℕ) → (has l.found q || list_any (same_name q) (characters l.rest)) ≡ list_any (same_name q) (characters l.text);
  text : shadow (Utf8 l.rest);
}

abbrev pub decreases-loop-first : goal.decreases-loop-first
decreases-loop-first l = length l.rest
